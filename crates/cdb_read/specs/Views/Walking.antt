-- What a walk is still to give, and what each part of it says of the bytes that it reads.
use Rattle.std.specs.Prelude.{ℕ, ◌≡◌, ◌+◌, ◌-◌, ◌≤◌, List, length, take, drop, min, sum_by, Option, Some, None, ◌<◌}
use Rattle.cdb_form.specs.declared.damage.Damage.TheVariants as damage
use Rattle.cdb_form.specs.Format.{pair_size, head_size, KeyValue, record_size, Walked, walk_from, no_walk, damaged, with_first, whole_records, with_records}
use Rattle.cdb_store.specs.Images.{part}
use Rattle.cdb_read.specs.Lookup.{bytes_of}
use Rattle.cdb_read.specs.declared.walking.state.RecordArea.{RecordArea}
use Rattle.cdb_read.specs.declared.walking.state.Walking.{Walking}
use Rattle.cdb_read.specs.declared.walking.state.Walking.TheVariants.{At, AtEnd, NoTable, NoRecord}
use Rattle.cdb_read.specs.declared.span.Pair.{Pair}
use Rattle.cdb_store.specs.declared.store.Store.{Ghosts}
use Rattle.cdb_form.specs.declared.width.Width.{Ghosts as Widths}
use Rattle.cdb_read.specs.declared.fault.ReadFault.{ReadFault}
use Rattle.cdb_read.specs.declared.fault.ReadFault.TheVariants.{Table, Record, Device}
use Rattle.cdb_read.specs.declared.walking.records.Walk.{Walk}

-- the record of a pair
abbrev pub record_in : List ℕ → Pair → KeyValue
record_in b pair = record { key = bytes_of b pair.key; value = bytes_of b pair.value }

-- the place after it
abbrev pub behind : Pair → ℕ
behind pair = pair.value.place + pair.value.len

-- what a walk gives from where it is
abbrev pub walk_ahead : ℕ → List ℕ → Walking → Walked
walk_ahead w b (At rest) = walk_from w rest.place rest.end (drop rest.place b)
walk_ahead w b AtEnd = no_walk
walk_ahead w b (NoTable n) = damaged (damage.Table n)
walk_ahead w b (NoRecord place) = damaged (damage.Record place)

-- the place of the next record, which is the first one after the head; and how many bytes are left
-- from there to the record end
abbrev pub next_place : ℕ → Walking → ℕ
next_place w (At rest) = rest.place
next_place w AtEnd = 0
next_place w (NoTable n) = head_size w
next_place w (NoRecord place) = place

abbrev pub size_ahead : Walking → ℕ
size_ahead (At rest) = rest.end - rest.place
size_ahead other = 0

-- the key lies after the header at a place, and the value after the key
pub record LiesAt (w place : ℕ) (pair : Pair) : Type 0 where
  pub here : pair.place ≡ place
  pub key : pair.key.place ≡ pair.place + pair_size w
  pub value : pair.value.place ≡ pair.key.place + pair.key.len

-- what a look at the next place says of some bytes
abbrev pub StandsTells : ℕ → RecordArea → Option Pair → List ℕ → Type 0
StandsTells w rest None b =
    walk_from w rest.place rest.end (drop rest.place b) ≡ damaged (damage.Record rest.place)
StandsTells w rest (Some pair) b =
    walk_from w rest.place rest.end (drop rest.place b)
    ≡ with_first (record_in b pair) (walk_from w (behind pair) rest.end (drop (behind pair) b))

pub record StandsAt (w : ℕ) (rest : RecordArea) (found : Option Pair) (images : List ℕ → Type 0)
    : Type 0 where
  pub each : (b : List ℕ) → images b → StandsTells w rest found b

-- a record that was found lies there, before the record end and inside a file of so many bytes
pub record RecordWithin (w : ℕ) (rest : RecordArea) (size : ℕ) (pair : Pair) : Type 0 where
  pub lies : LiesAt w rest.place pair
  pub before : behind pair ≤ rest.end
  pub inside : behind pair ≤ size

abbrev pub StandsWithin : ℕ → RecordArea → ℕ → Option Pair → Type 0
StandsWithin w rest size None = Unit {0}
StandsWithin w rest size (Some pair) = RecordWithin w rest size pair

-- the bytes of whole records, at most m bytes, that are at the start of some bytes
abbrev pub records_length : ℕ → ℕ → List ℕ → ℕ
records_length w m bytes = sum_by (record_size w) (whole_records w m (take m bytes))

-- the first n bytes of some are whole records from the next place on, before the record end, and all
-- that are whole within as many bytes
pub record RecordsAhead (w : ℕ) (rest : RecordArea) (bytes : List ℕ) (images : List ℕ → Type 0) (n : ℕ)
    : Type 0 where
  pub few : n ≤ length bytes
  pub room : n ≤ rest.end - rest.place
  pub size : n ≡ records_length w n bytes
  pub same : (b : List ℕ) → images b → take n bytes ≡ part rest.place n b
  pub most : (b : List ℕ) → images b
      → n ≡ records_length w (min (length bytes) (rest.end - rest.place)) (drop rest.place b)

-- ---- What a walk is still to give.

-- what is left of the walk, in a list of bytes
abbrev pub left_of : {S L : Type 0} {s : Ghosts S} {l : Widths L} → ℕ → List ℕ → Walk S L s l
    → Walked
left_of w b t = walk_ahead w b t.walking

-- the place of the next record; and how many bytes are left up to the record end
abbrev pub place_of : {S L : Type 0} {s : Ghosts S} {l : Widths L} → ℕ → Walk S L s l → ℕ
place_of w t = next_place w t.walking

abbrev pub bytes_left : {S L : Type 0} {s : Ghosts S} {l : Widths L} → Walk S L s l → ℕ
bytes_left t = size_ahead t.walking

-- it has answered `None`, that a table begins too early, or that a record isn't whole
abbrev pub HasWalked : {S L : Type 0} {s : Ghosts S} {l : Widths L} → Walk S L s l → Type 0
HasWalked t = t.walking ≡ AtEnd

abbrev pub HasNoTable : {S L : Type 0} {s : Ghosts S} {l : Widths L} → Walk S L s l → ℕ → Type 0
HasNoTable t n = t.walking ≡ NoTable n

abbrev pub HasNoRecord : {S L : Type 0} {s : Ghosts S} {l : Widths L} → Walk S L s l → ℕ → Type 0
HasNoRecord t place = t.walking ≡ NoRecord place

-- a call gave a pair: the record at the next place, which is the first of what was left
pub record GivesRecord {S L : Type 0} {s : Ghosts S} {l : Widths L} (w : ℕ)
    (old new : Walk S L s l) (pair : Pair) : Type 0 where
  pub first : (b : List ℕ) → s.image new.reader.now.store b
      → left_of w b old ≡ with_first (record_in b pair) (left_of w b new)
  pub lies : LiesAt w (place_of w old) pair
  pub next : place_of w new ≡ behind pair
  pub inside : behind pair ≤ s.size new.reader.now.store
  pub fewer : bytes_left new < bytes_left old

-- or none, since nothing was left
pub record GivesNoRecord {S L : Type 0} {s : Ghosts S} {l : Widths L} (w : ℕ)
    (old new : Walk S L s l) : Type 0 where
  pub none : (b : List ℕ) → s.image new.reader.now.store b → left_of w b old ≡ no_walk
  pub ended : HasWalked new

-- or a fault: the store failed, and the walk is where it was; or the damage of what was left
abbrev pub WalkingFails : {S L : Type 0} {s : Ghosts S} {l : Widths L} → ℕ → Walk S L s l
    → Walk S L s l → ReadFault → Type 0
WalkingFails {s = s} w old new Device = (new.walking ≡ old.walking)
    × (s.failures old.reader.now.store < s.failures new.reader.now.store)
WalkingFails {s = s} w old new (Table n) = HasNoTable new n
    × ((b : List ℕ) → s.image new.reader.now.store b
    → left_of w b old ≡ damaged (damage.Table n))
WalkingFails {s = s} w old new (Record place) = HasNoRecord new place
    × ((b : List ℕ) → s.image new.reader.now.store b
    → left_of w b old ≡ damaged (damage.Record place))
WalkingFails w old new fault = ⊥

-- a call gave the next n bytes over the start of some bytes: whole records and nothing else, the
-- first of what was left, and as many as are whole within the bytes and before the record end
pub record GivesRecords {S L : Type 0} {s : Ghosts S} {l : Widths L} (w : ℕ)
    (old new : Walk S L s l) (bytes : List ℕ) (n : ℕ) : Type 0 where
  pub few : n ≤ length bytes
  pub size : n ≡ records_length w n bytes
  pub gives : (b : List ℕ) → s.image new.reader.now.store b
      → left_of w b old ≡ with_records (whole_records w n (take n bytes)) (left_of w b new)
  pub most : (b : List ℕ) → s.image new.reader.now.store b
      → n ≡ records_length w (min (length bytes) (bytes_left old)) (drop (place_of w old) b)
  pub next : place_of w new ≡ place_of w old + n
  pub fewer : bytes_left new + n ≡ bytes_left old
  pub stays : n ≡ 0 → new.walking ≡ old.walking
