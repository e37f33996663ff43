-- What a clause reads of a reader of a text of some form, whose items are spelled as `spelling` says.
use Rattle.std.specs.Prelude.{ℕ, List, [], ◌+◌, ◌-◌, ◌<◌, ◌≤◌, length, take, ◌≡◌, Bool, true, false, codes}
use Rattle.cdb_form.specs.Text.Parse.{SpellsChange}
use Rattle.cdb_form.specs.Text.Form.{HasFault, HasNoItem, Spelled}
use Rattle.cdb_form.specs.Text.Native.{Spells}
use Rattle.cdb_form.specs.Views.Source.{IsTold, Takes, budget}
use Rattle.cdb_form.specs.Views.TextFault.{IsOfText, IsReadFault, LastRead}
use Rattle.cdb_form.specs.declared.text.fault.TextFault.{TextFault}
use Rattle.cdb_form.specs.declared.text.fault.TextFault.TheVariants.{Ended}
use Rattle.cdb_form.specs.declared.text.form_reader.FormReader.{FormReader}
use Rattle.cdb_form.specs.declared.text.going.Going.TheVariants.{On, AtEnd, Failed}
use Rattle.cdb_form.specs.declared.text.source.Source.{Source}
use Rattle.cdb_form.specs.Views.Feed.{Feed, Consumes, FromTo}
use Rattle.cdb_form.specs.Views.Taking.{Took}

-- its reader
abbrev pub reader_of : {R L : Type 0} → FormReader R L → R
reader_of t = t.source.reader

-- the number of bytes it read
abbrev pub taken_of : {R L : Type 0} → FormReader R L → ℕ
taken_of t = t.source.taken

-- the number of requests that its reader may still get
abbrev pub asks_left : {R L : Type 0} → FormReader R L → ℕ
asks_left t = t.source.asks

-- it has answered neither `None` nor a fault
abbrev pub IsGoing : {R L : Type 0} → FormReader R L → Type 0
IsGoing t = t.going ≡ On

-- it has answered `None`
abbrev pub HasEnded : {R L : Type 0} → FormReader R L → Type 0
HasEnded t = t.going ≡ AtEnd

-- it has answered this fault
abbrev pub HasFailed : {R L : Type 0} → FormReader R L → TextFault → Type 0
HasFailed t fault = t.going ≡ Failed fault

-- what was read of a text, from the count `from` to the count `to`, is the start of a text, and no
-- whole one; no whole item is there
pub record StopsAmid {X : Type 0} (spelling : ℕ → List ℕ → X → Type 0) (greatest from to : ℕ)
    (text : List ℕ) : Type 0 where
  pub front : HasFault spelling greatest from (take (to - from) text) (Ended to)
  pub no_record : HasNoItem spelling greatest (take (to - from) text)

-- these bytes spell the item
pub record ReadsItem {X : Type 0} (spelling : ℕ → List ℕ → X → Type 0) (greatest : ℕ)
    (old new : Feed) (from to : ℕ) (x : X) : Type 0 where
  pub text : List ℕ
  pub spells : spelling greatest text x
  pub read : Consumes old new text
  pub counted : to ≡ from + length text

-- A fault is one of a text, from the count `from` on; or the reader failed or got too many requests,
-- and what was read up to the count `to` is the start of a text. No whole item is there.
pub record IsFaultOf {X : Type 0} (spelling : ℕ → List ℕ → X → Type 0) (greatest from to : ℕ)
    (text : List ℕ) (fault : TextFault) : Type 0 where
  pub exact : HasFault spelling greatest from text fault
  pub no_record : IsOfText fault → HasNoItem spelling greatest text
  pub part : IsReadFault fault → StopsAmid spelling greatest from to text

-- A reader met a fault of what was left. What was taken ends with the byte at the fault's place.
pub record MeetsFault {R X : Type 0} (spelling : ℕ → List ℕ → X → Type 0) (greatest : ℕ)
    (feed : R → Feed) (old new : Source R) (fault : TextFault) : Type 0 where
  pub of : FromTo (feed old.reader) (feed new.reader)
      (λ text rest. IsFaultOf spelling greatest old.taken new.taken text fault)
  pub took : Took (feed old.reader) (feed new.reader) old.taken new.taken
  pub last : LastRead new.taken fault
  pub told : IsTold (feed new.reader) new.asks fault
  pub spends : budget old ≤ budget new + 1001

-- a call gave an item, which was spelled by what was left
pub record GivesItem {R L X : Type 0} (spelling : ℕ → List ℕ → X → Type 0) (greatest : ℕ)
    (feed : R → Feed) (old new : FormReader R L) (x : X) : Type 0 where
  pub reads : ReadsItem spelling greatest (feed old.source.reader) (feed new.source.reader)
      old.source.taken new.source.taken x
  pub going : IsGoing new
  pub fewer : asks_left new < asks_left old
  pub spends : budget old.source ≤ budget new.source

-- a call gave these items, which were spelled by what was left
pub record GivesItems {R L X : Type 0} (spelling : ℕ → List ℕ → X → Type 0) (greatest : ℕ)
    (feed : R → Feed) (old new : FormReader R L) (xs : List X) : Type 0 where
  pub text : List ℕ
  pub spelled : Spelled spelling greatest xs text []
  pub takes : Takes feed old.source new.source text
  pub going : new.going ≡ old.going
  pub fewer : asks_left new + length xs ≤ asks_left old
  pub spends : budget old.source ≤ budget new.source

-- a call reported the end: the first such call took the newline that ends the text
pub record Ends {R : Type 0} (feed : R → Feed) (Going Ended : Type 0) (old new : Source R) :
    Type 0 where
  pub ended : Ended
  pub newline : Going → Consumes (feed old.reader) (feed new.reader) (codes "\n")
  pub counted : Going → new.taken ≡ old.taken + 1
  pub spends : budget old ≤ budget new

abbrev pub GivesEnd : {R L : Type 0} → (R → Feed) → FormReader R L → FormReader R L → Type 0
GivesEnd feed old new = Ends feed (IsGoing old) (HasEnded new) old.source new.source

-- a call answered a fault, as every later one will
pub record Fails {R L X : Type 0} (spelling : ℕ → List ℕ → X → Type 0) (greatest : ℕ)
    (feed : R → Feed) (old new : FormReader R L) (fault : TextFault) : Type 0 where
  pub failed : HasFailed new fault
  pub meets : IsGoing old → MeetsFault spelling greatest feed old.source new.source fault

-- the same of an amending text, if removals are taken, or else of a native one
abbrev pub FailsAs : Bool → {R L : Type 0} → ℕ → (R → Feed) → FormReader R L → FormReader R L
    → TextFault → Type 0
FailsAs true greatest feed old new fault = Fails SpellsChange greatest feed old new fault
FailsAs false greatest feed old new fault = Fails Spells greatest feed old new fault
