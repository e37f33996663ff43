-- What a clause reads of a reader of a list text.
use Rattle.std.specs.Prelude.{ℕ, List, ◌<◌, ◌≤◌, ◌≡◌}
use Rattle.cdb_form.specs.Text.Parse.{SpellsKey}
use Rattle.cdb_form.specs.Views.FormReader.{Ends, MeetsFault, ReadsItem}
use Rattle.cdb_form.specs.Views.Source.{budget}
use Rattle.cdb_form.specs.declared.text.fault.TextFault.{TextFault}
use Rattle.cdb_form.specs.declared.text.going.Going.TheVariants.{On, AtEnd, Failed}
use Rattle.cdb_form.specs.declared.text.list_reader.ListReader.{ListReader}
use Rattle.cdb_form.specs.Views.Feed.{Feed}

-- its reader
abbrev pub reader_of : {R L : Type 0} → ListReader R L → R
reader_of t = t.source.reader

-- the number of bytes it read
abbrev pub taken_of : {R L : Type 0} → ListReader R L → ℕ
taken_of t = t.source.taken

-- the number of requests that its reader may still get
abbrev pub asks_left : {R L : Type 0} → ListReader R L → ℕ
asks_left t = t.source.asks

-- it has answered neither `false` nor a fault
abbrev pub IsGoing : {R L : Type 0} → ListReader R L → Type 0
IsGoing t = t.going ≡ On

-- it has answered `false`
abbrev pub HasEnded : {R L : Type 0} → ListReader R L → Type 0
HasEnded t = t.going ≡ AtEnd

-- it has answered this fault
abbrev pub HasFailed : {R L : Type 0} → ListReader R L → TextFault → Type 0
HasFailed t fault = t.going ≡ Failed fault

-- a call gave a key, which was spelled by what was left
pub record GivesKey {R L : Type 0} (greatest : ℕ) (feed : R → Feed) (old new : ListReader R L)
    (key : List ℕ) : Type 0 where
  pub was : IsGoing old
  pub reads : ReadsItem SpellsKey greatest (feed old.source.reader) (feed new.source.reader)
      old.source.taken new.source.taken key
  pub going : IsGoing new
  pub fewer : asks_left new < asks_left old
  pub spends : budget old.source ≤ budget new.source

-- a call reported the end: the first such call took the newline that ends the text
abbrev pub GivesEnd : {R L : Type 0} → (R → Feed) → ListReader R L → ListReader R L → Type 0
GivesEnd feed old new = Ends feed (IsGoing old) (HasEnded new) old.source new.source

-- a call answered a fault, as every later one will
pub record Fails {R L : Type 0} (greatest : ℕ) (feed : R → Feed) (old new : ListReader R L)
    (fault : TextFault) : Type 0 where
  pub failed : HasFailed new fault
  pub meets : IsGoing old → MeetsFault SpellsKey greatest feed old.source new.source fault
