-- What a clause reads of a value that is left to be read in pieces: one of a native text, or of a put of an
-- amending one.
use Rattle.std.specs.Prelude.{ℕ, List, [], ◌+◌, ◌<◌, ◌≤◌, ◌++◌, length, ◌≡◌, ⊤, codes}
use Rattle.cdb_form.specs.Format.{AreBytes, record_of}
use Rattle.cdb_form.specs.Text.Native.{Spells}
use Rattle.cdb_form.specs.Text.Parse.{SpellsChange}
use Rattle.cdb_form.specs.Views.Feed.{Feed, Consumes}
use Rattle.cdb_form.specs.Views.FormReader.{GivesItem, IsGoing, ReadsItem, asks_left, taken_of}
use Rattle.cdb_form.specs.Views.Pairs.{change_in}
use Rattle.cdb_form.specs.Views.Source.{budget}
use Rattle.cdb_form.specs.declared.item.ItemKind.TheVariants.{Put, Remove}
use Rattle.cdb_form.specs.declared.record.Record.{Record}
use Rattle.cdb_form.specs.declared.text.form_reader.FormReader.{FormReader}
use Rattle.cdb_form.specs.declared.text.long_value.Next.{Next}
use Rattle.cdb_form.specs.declared.text.long_value.Next.TheVariants.{Item, Value}

-- a record whose value is to come: its key, and the value's length
pub record ValueAhead : Type 0 where
  pub key : List ℕ
  pub vlen : ℕ

abbrev pub value_ahead : List ℕ → ℕ → ValueAhead
value_ahead key vlen = record { key = key; vlen = vlen }

-- the text of a record up to its value: with any value of this length, and a newline, it spells the record
abbrev pub SpellsFront : ℕ → List ℕ → ValueAhead → Type 0
SpellsFront greatest text ahead =
    (value : List ℕ) → AreBytes value → length value ≡ ahead.vlen
    → Spells greatest (text ++ value ++ codes "\n") (record_of ahead.key value)

-- Since the reader was the first one, the text of a record up to its value was read, and then these bytes of
-- the value, which has `vlen` in all.
pub record AmidValue {R L : Type 0} (greatest : ℕ) (feed : R → Feed) (first now : FormReader R L)
    (key : List ℕ) (vlen : ℕ) (got : List ℕ) : Type 0 where
  pub front : List ℕ
  pub spells : SpellsFront greatest front (value_ahead key vlen)
  pub read : Consumes (feed first.source.reader) (feed now.source.reader) (front ++ got)
  pub counted : taken_of now ≡ taken_of first + length (front ++ got)
  pub are : AreBytes got
  pub within : length got ≤ vlen
  pub began : IsGoing first
  pub going : IsGoing now
  pub fewer : asks_left now < asks_left first
  pub spends : budget first.source ≤ budget now.source

-- an item was read over the record, or its text up to a value
abbrev pub ReadsNext : ℕ → (old new : Feed) → (from to : ℕ) → Record → Next → Type 0
ReadsNext greatest old new from to into (Item kind) =
    ReadsItem SpellsChange greatest old new from to (change_in kind into)
ReadsNext greatest old new from to into (Value vlen) =
    ReadsItem SpellsFront greatest old new from to (value_ahead into.key.items vlen)

-- a call gave an item, or a record's key and the length of its value, which is left
abbrev pub GivesNext : {R L : Type 0} → ℕ → (R → Feed) → (old new : FormReader R L) → Record → Next
    → Type 0
GivesNext greatest feed old new into (Item kind) =
    GivesItem SpellsChange greatest feed old new (change_in kind into)
GivesNext greatest feed old new into (Value vlen) =
    AmidValue greatest feed old new into.key.items vlen []

-- a value of at most so many bytes was read, and a longer one is left, with the record's own as it was
abbrev pub LeavesLonger : ℕ → (old new : Record) → Next → Type 0
LeavesLonger most old new (Item Put) = length new.value.items ≤ most
LeavesLonger most old new (Item Remove) = ⊤
LeavesLonger most old new (Value vlen) = (most < vlen) × (new.value ≡ old.value)
