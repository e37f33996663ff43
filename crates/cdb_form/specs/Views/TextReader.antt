-- What a clause reads of a reader of a native text.
use Rattle.std.specs.Prelude.{ℕ, List, ◌+◌, ◌*◌}
use Rattle.cdb_form.specs.Format.{KeyValue}
use Rattle.cdb_form.specs.Text.Native.{Spells}
use Rattle.cdb_form.specs.declared.text.fault.TextFault.{TextFault}
use Rattle.cdb_form.specs.declared.text.native_reader.TextReader.{TextReader}
use Rattle.cdb_form.specs.Views.Feed.{Feed}
use Rattle.cdb_form.specs.Views.FormReader as form

-- its reader
abbrev pub reader_of : {R L : Type 0} → TextReader R L → R
reader_of t = form.reader_of t.items

-- the number of bytes it read
abbrev pub taken_of : {R L : Type 0} → TextReader R L → ℕ
taken_of t = form.taken_of t.items

-- the number of requests that its reader may still get
abbrev pub asks_left : {R L : Type 0} → TextReader R L → ℕ
asks_left t = form.asks_left t.items

-- it has answered neither `None` nor a fault
abbrev pub IsGoing : {R L : Type 0} → TextReader R L → Type 0
IsGoing t = form.IsGoing t.items

-- it has answered `None`
abbrev pub HasEnded : {R L : Type 0} → TextReader R L → Type 0
HasEnded t = form.HasEnded t.items

-- it has answered this fault
abbrev pub HasFailed : {R L : Type 0} → TextReader R L → TextFault → Type 0
HasFailed t fault = form.HasFailed t.items fault

-- what was read of a text, from the count `from` to the count `to`, is the start of a text, and no
-- whole one; no whole record is there
abbrev pub StopsAmid : ℕ → ℕ → ℕ → List ℕ → Type 0
StopsAmid greatest from to text = form.StopsAmid Spells greatest from to text

-- Each byte takes at most 1001 requests: as many as are made in a row if signals interrupt them.
abbrev pub budget : {R L : Type 0} → TextReader R L → ℕ
budget t = asks_left t + 1001 * taken_of t

-- a call gave a record, which was spelled by what was unread
abbrev pub GivesRecord : {R L : Type 0} → ℕ → (R → Feed) → TextReader R L
    → TextReader R L → KeyValue → Type 0
GivesRecord greatest feed old new r =
    form.GivesItem Spells greatest feed old.items new.items r

-- a call reported the end: the first such call took the newline that ends the text
abbrev pub GivesEnd : {R L : Type 0} → (R → Feed) → TextReader R L
    → TextReader R L → Type 0
GivesEnd feed old new = form.GivesEnd feed old.items new.items

-- a reader met a fault of a native text
abbrev pub MeetsFault : {R L : Type 0} → ℕ → (R → Feed) → TextReader R L
    → TextReader R L → TextFault → Type 0
MeetsFault greatest feed old new fault =
    form.MeetsFault Spells greatest feed old.items.source new.items.source fault

-- a call answered a fault, as every later one will
abbrev pub Fails : {R L : Type 0} → ℕ → (R → Feed) → TextReader R L
    → TextReader R L → TextFault → Type 0
Fails greatest feed old new fault =
    form.Fails Spells greatest feed old.items new.items fault
