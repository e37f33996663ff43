-- What a clause reads of the reader of an input, whatever its form and whatever gives its bytes.
use Rattle.std.specs.Prelude.{List, [], false, true, ◌≡◌, ◌^◌, ℕ, ⊤}
use Rattle.cdb_form.specs.Views.Feed.{Feed}
use Rattle.cdb_form.specs.Views.FormReader as fed
use Rattle.cdb_form.specs.Views.LongValue as long
use Rattle.cdb_form.specs.Views.MapReader as fed_map
use Rattle.cdb_form.specs.Views.Pairs.{change_in}
use Rattle.cdb_form.specs.Format.{KeyValue}
use Rattle.cdb_form.specs.Text.Parse.{Change, Putting, SpellsChange}
use Rattle.cdb_form.specs.Text.Native.{Spells}
use Rattle.cdb_form.specs.declared.record.Record.{Record}
use Rattle.cdb_form.specs.declared.text.fault.TextFault.{TextFault}
use Rattle.cdb_form.specs.declared.text.long_value.Next.{Next}
use Rattle.cdb_form.specs.declared.text.long_value.Next.TheVariants.{Item, Value}
use Rattle.cdb_command.specs.declared.style.Style.TheVariants as style
use Rattle.cdb_show.specs.Runs.Inputs.{InputForm}
use Rattle.cdb_show.specs.Runs.Inputs as form
use Rattle.cdb_show.specs.declared.runs.item_reader.ItemReader.{ItemReader}
use Rattle.cdb_show.specs.declared.runs.item_reader.ItemReader.TheVariants.{Form, Map}

-- the form that it reads
abbrev pub form_of : {F L : Type 0} → ItemReader F L → InputForm
form_of (Form t true) = form.Changes
form_of (Form t false) = form.Puts style.Native
form_of (Map t) = form.Puts style.Map

-- what gives its bytes
abbrev pub reader_of : {F L : Type 0} → ItemReader F L → F
reader_of (Form t removals) = fed.reader_of t
reader_of (Map t) = fed_map.reader_of t

-- the number of bytes it took, and how many requests its reader may still get
abbrev pub taken_of : {F L : Type 0} → ItemReader F L → ℕ
taken_of (Form t removals) = fed.taken_of t
taken_of (Map t) = fed_map.taken_of t

abbrev pub asks_left : {F L : Type 0} → ItemReader F L → ℕ
asks_left (Form t removals) = fed.asks_left t
asks_left (Map t) = fed_map.asks_left t

-- it has reported neither the end nor a fault
abbrev pub IsGoing : {F L : Type 0} → ItemReader F L → Type 0
IsGoing (Form t removals) = fed.IsGoing t
IsGoing (Map t) = fed_map.IsGoing t

-- nothing was taken yet, and its reader may get 2^48 requests
pub record IsNew {F L : Type 0} (t : ItemReader F L) : Type 0 where
  pub going : IsGoing t
  pub taken : taken_of t ≡ 0
  pub asks : asks_left t ≡ 2 ^ 48

-- a call gave these records, as a reader of its form does
abbrev pub GivesPuts : {F L : Type 0} → ℕ → (F → Feed) → ItemReader F L → ItemReader F L
    → List KeyValue → Type 0
GivesPuts greatest feed (Form old true) (Form new true) rs =
    fed.GivesItems Spells greatest feed old new rs
GivesPuts greatest feed (Form old false) (Form new false) rs =
    fed.GivesItems Spells greatest feed old new rs
GivesPuts greatest feed (Map old) (Map new) rs = fed_map.GivesRecords feed old new rs
GivesPuts greatest feed old new rs = ⊥

-- a call gave an item, as a reader of its form does
abbrev pub GivesItem : {F L : Type 0} → ℕ → (F → Feed) → ItemReader F L → ItemReader F L → Change
    → Type 0
GivesItem greatest feed (Form old true) (Form new true) change =
    fed.GivesItem SpellsChange greatest feed old new change
GivesItem greatest feed (Form old false) (Form new false) (Putting r) =
    fed.GivesItem Spells greatest feed old new r
GivesItem greatest feed (Map old) (Map new) (Putting r) = fed_map.GivesRecord feed old new r
GivesItem greatest feed old new change = ⊥

-- Since the reader was the first one, the text of a record up to its value was read, and then these bytes of
-- the value, which has `vlen` in all. No value of a map text is left.
abbrev pub AmidValue : {F L : Type 0} → ℕ → (F → Feed) → (first now : ItemReader F L)
    → (key : List ℕ) → (vlen : ℕ) → (got : List ℕ) → Type 0
AmidValue greatest feed (Form first true) (Form now true) key vlen got =
    long.AmidValue greatest feed first now key vlen got
AmidValue greatest feed (Form first false) (Form now false) key vlen got =
    long.AmidValue greatest feed first now key vlen got
AmidValue greatest feed first now key vlen got = ⊥

-- a call gave an item, or a record's key and the length of its value, which is left
abbrev pub GivesNext : {F L : Type 0} → ℕ → (F → Feed) → (old new : ItemReader F L) → Record → Next
    → Type 0
GivesNext greatest feed old new into (Item kind) =
    GivesItem greatest feed old new (change_in kind into)
GivesNext greatest feed old new into (Value vlen) =
    AmidValue greatest feed old new into.key.items vlen []

-- a value of at most so many bytes was read, and a longer one is left, with the record's own as it was; one
-- of a map text is read, however long it is
abbrev pub LeavesLonger : {F L : Type 0} → ItemReader F L → ℕ → (old new : Record) → Next → Type 0
LeavesLonger (Form t removals) most old new next = long.LeavesLonger most old new next
LeavesLonger (Map t) most old new next = ⊤

-- a call reported the end, or answered a fault
abbrev pub GivesEnd : {F L : Type 0} → (F → Feed) → ItemReader F L → ItemReader F L → Type 0
GivesEnd feed (Form old true) (Form new true) = fed.GivesEnd feed old new
GivesEnd feed (Form old false) (Form new false) = fed.GivesEnd feed old new
GivesEnd feed (Map old) (Map new) = fed_map.GivesEnd feed old new
GivesEnd feed old new = ⊥

abbrev pub Fails : {F L : Type 0} → ℕ → (F → Feed) → ItemReader F L → ItemReader F L → TextFault → Type 0
Fails greatest feed (Form old true) (Form new true) fault =
    fed.Fails SpellsChange greatest feed old new fault
Fails greatest feed (Form old false) (Form new false) fault =
    fed.Fails Spells greatest feed old new fault
Fails greatest feed (Map old) (Map new) fault = fed_map.Fails feed old new fault
Fails greatest feed old new fault = ⊥
