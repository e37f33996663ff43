-- What a clause reads of a reader of a map text.
use Rattle.std.specs.Prelude.{All, List, [], flat_map, length, ◌+◌, ◌++◌, ◌<◌, ◌∷◌, ◌≡◌, ◌≤◌, ℕ, codes}
use Rattle.cdb_form.specs.Format.{KeyValue}
use Rattle.cdb_form.specs.Text.Map.{IsIgnoredLine, IsLineOf, Lacks, is_newline, line_records, with_newlines}
use Rattle.cdb_form.specs.Views.MapParser.{ReadsToEnding}
use Rattle.cdb_form.specs.Views.Source.{LeavesAmid, Takes, budget}
use Rattle.cdb_form.specs.declared.text.fault.TextFault.{TextFault}
use Rattle.cdb_form.specs.declared.text.going.Going.TheVariants.{AtEnd, Failed, On}
use Rattle.cdb_form.specs.declared.text.map_reader.MapReader.{MapReader}
use Rattle.cdb_form.specs.declared.text.source.Source.{Source}
use Rattle.cdb_form.specs.Views.Feed.{Feed}
use Rattle.cdb_form.specs.declared.text.map_parser.Entry.{Entry}
use Rattle.cdb_form.specs.declared.text.map_parser.Entry.TheVariants.{Closed, End, Last}

-- its reader
abbrev pub reader_of : {R : Type 0} → MapReader R → R
reader_of t = t.source.reader

-- the number of bytes it read
abbrev pub taken_of : {R : Type 0} → MapReader R → ℕ
taken_of t = t.source.taken

-- the number of requests that its reader may still get
abbrev pub asks_left : {R : Type 0} → MapReader R → ℕ
asks_left t = t.source.asks

-- it has met neither the end of its input nor a fault
abbrev pub IsGoing : {R : Type 0} → MapReader R → Type 0
IsGoing t = t.going ≡ On

-- it has met the end of its input: it answers `None`
abbrev pub HasEnded : {R : Type 0} → MapReader R → Type 0
HasEnded t = t.going ≡ AtEnd

-- it has answered this fault
abbrev pub HasFailed : {R : Type 0} → MapReader R → TextFault → Type 0
HasFailed t fault = t.going ≡ Failed fault

-- ignored lines, and then a part of one more line: no record's line is whole there
pub record IsAmidLines (bytes : List ℕ) : Type 0 where
  pub ignored : List (List ℕ)
  pub part : List ℕ
  pub are_ignored : All IsIgnoredLine ignored
  pub within : Lacks is_newline part
  pub bytes_are : bytes ≡ with_newlines ignored ++ part

-- of a text whole lines were read, each with its newline, which hold these records
pub record ReadLines (text rest : List ℕ) (rs : List KeyValue) : Type 0 where
  pub lines : List (List ℕ)
  pub whole : All (Lacks is_newline) lines
  pub split : text ≡ with_newlines lines ++ rest
  pub records : flat_map line_records lines ≡ rs

-- of a text whole lines were read that hold these records, and a part of one more line
pub record ReadAmid (text rest : List ℕ) (rs : List KeyValue) : Type 0 where
  pub part : List ℕ
  pub lines : ReadLines text (part ++ rest) rs
  pub within : Lacks is_newline part

-- after a record's line it goes on, unless the line ended with the input
abbrev pub GoesOn : {R : Type 0} → List ℕ → MapReader R → Type 0
GoesOn [] t = HasEnded t
GoesOn (c ∷ bytes) t = IsGoing t

-- ignored lines were read, and then the line of a record, which ends so
pub record ReadsLinesOf {R : Type 0} (feed : R → Feed) (old new : Source R)
    (r : KeyValue) (ending : List ℕ) : Type 0 where
  pub ignored : List (List ℕ)
  pub line : List ℕ
  pub are_ignored : All IsIgnoredLine ignored
  pub is : IsLineOf r line
  pub reads : ReadsToEnding feed old new (with_newlines ignored ++ line) ending

-- ignored lines were read, the last one up to the end of the input
pub record ReadsIgnored {R : Type 0} (feed : R → Feed) (old new : Source R) :
    Type 0 where
  pub ignored : List (List ℕ)
  pub line : List ℕ
  pub are_ignored : All IsIgnoredLine ignored
  pub is : IsIgnoredLine line
  pub reads : ReadsToEnding feed old new (with_newlines ignored ++ line) []

-- what was read up to the first record's line
abbrev pub ReadsEntry : {R : Type 0} → (R → Feed) → Source R → Source R → KeyValue
    → Entry → Type 0
ReadsEntry feed old new r End = ReadsIgnored feed old new
ReadsEntry feed old new r Closed = ReadsLinesOf feed old new r (codes "\n")
ReadsEntry feed old new r Last = ReadsLinesOf feed old new r []

-- a call gave a record: its line was the first one unread that is not ignored
pub record GivesRecord {R : Type 0} (feed : R → Feed) (old new : MapReader R)
    (r : KeyValue) : Type 0 where
  pub was : IsGoing old
  pub ending : List ℕ
  pub reads : ReadsLinesOf feed old.source new.source r ending
  pub going : GoesOn ending new
  pub fewer : asks_left new < asks_left old

-- a call gave these records: their lines were the first ones unread
pub record GivesRecords {R : Type 0} (feed : R → Feed) (old new : MapReader R) (rs : List KeyValue) :
    Type 0 where
  pub text : List ℕ
  pub lines : ReadLines text [] rs
  pub takes : Takes feed old.source new.source text
  pub going : new.going ≡ old.going
  pub fewer : asks_left new + length rs ≤ asks_left old
  pub spends : budget old.source ≤ budget new.source

-- a call reported the end: the first such call read ignored lines alone, unless the last record came
-- with the end; then nothing is read
pub record GivesEnd {R : Type 0} (feed : R → Feed) (old new : MapReader R) :
    Type 0 where
  pub ended : HasEnded new
  pub reads : IsGoing old → ReadsIgnored feed old.source new.source
  pub stays : HasEnded old → new ≡ old

-- a call answered a fault, as every later one will: what it read holds no record's whole line
pub record Fails {R : Type 0} (feed : R → Feed) (old new : MapReader R)
    (fault : TextFault) : Type 0 where
  pub unended : HasEnded old → ⊥
  pub failed : HasFailed new fault
  pub meets : IsGoing old → LeavesAmid IsAmidLines feed old.source new.source fault
