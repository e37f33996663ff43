-- What the function of a text says is what its grammar says.
use Rattle.std.specs.Prelude.{ℕ, ◌≡◌, List, map, Result, Ok, Err, ◌<◌, ◌++◌, length, take, drop, flat_map, sum_by, ◌≤◌, Some, None}
use Rattle.cdb_form.specs.Text.Parse.{Change, Parsed}
use Rattle.cdb_form.specs.Text.Form.{Reads, WholeItems, HasFault}
use Rattle.cdb_form.specs.Views.TextFault.{IsOfText}
use Rattle.cdb_form.specs.declared.text.fault.TextFault.{TextFault}
use Rattle.cdb_form.specs.Format.{file_bytes, head_size, head_at, KeyValue, record_bytes, record_size, records_end, Walked, walk_of, record_end, damaged, first_table_at}
use Rattle.cdb_form.specs.declared.damage.Damage.TheVariants.{Short, Table, Record}

-- what was parsed holds of the text: it reads as these items and then the rest, or these are its whole
-- items, and it has this fault
abbrev pub HoldsOf : {X : Type 0} → (spelling : ℕ → List ℕ → X → Type 0) → (g : ℕ) → (text : List ℕ)
    → (xs : List X) → Result (List ℕ) TextFault → Type 0
HoldsOf spelling g text xs (Ok rest) = Reads spelling g xs text rest
HoldsOf spelling g text xs (Err fault) =
    IsOfText fault × HasFault spelling g 0 text fault
    × ((rest : List ℕ) × WholeItems spelling g text xs rest)

-- it does, and whatever does was parsed
pub record IsParsed {X : Type 0} (spelling : ℕ → List ℕ → X → Type 0) (inject : X → Change) (g : ℕ)
    (text : List ℕ) (parsed : Parsed) : Type 0 where
  pub items : List X
  pub are : parsed.items ≡ map inject items
  pub holds : HoldsOf spelling g text items parsed.ends
  pub only : (xs : List X) (ends : Result (List ℕ) TextFault) → HoldsOf spelling g text xs ends
      → parsed ≡ record { items = map inject xs; ends = ends }

-- ---- Laws of the walk.

-- some records follow the head of a file, inside both the record end and the file
pub record Stand (w : ℕ) (bytes : List ℕ) (rs : List KeyValue) : Type 0 where
  pub inside : records_end w rs ≤ length bytes
  pub before_end : records_end w rs ≤ record_end w bytes
  pub bytes_are : take (sum_by (record_size w) rs) (drop (head_size w) bytes) ≡ flat_map
      (record_bytes w) rs

-- they are the longest list of records there
pub record StandLongest (w : ℕ) (bytes : List ℕ) (rs : List KeyValue) : Type 0 where
  pub stand : Stand w bytes rs
  pub longest : (others : List KeyValue) → Stand w bytes others → (more : List KeyValue)
      × (rs ≡ others ++ more)

-- a file has a whole head, and no table that has slots begins within it
pub record HasHead (w : ℕ) (bytes : List ℕ) : Type 0 where
  pub whole : head_size w ≤ length bytes
  pub behind : head_size w ≤ record_end w bytes

-- a walk of a file gives the longest list of records that lies in it, and the damage after them,
-- if any
pub record IsWalk (w : ℕ) (bytes : List ℕ) (walk : Walked) : Type 0 where
  pub short : length bytes < head_size w → walk ≡ damaged Short
  pub table : head_size w ≤ length bytes → record_end w bytes < head_size w
      → walk ≡ damaged (Table (first_table_at (record_end w bytes) (head_at w bytes)))
  pub longest : HasHead w bytes → StandLongest w bytes walk.records
  pub whole : HasHead w bytes → records_end w walk.records ≡ record_end w bytes → walk.damage ≡ None
  pub damage : HasHead w bytes → records_end w walk.records < record_end w bytes
      → walk.damage ≡ Some (Record (records_end w walk.records))

-- the walk of the file of some records gives these records, and meets no damage
abbrev pub WalksBack : ℕ → List KeyValue → Type 0
WalksBack w rs = walk_of w (file_bytes w rs) ≡ record { records = rs; damage = None }
