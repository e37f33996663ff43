-- What a check of a file answers.
use Rattle.std.specs.Prelude.{ℕ, ◌≡◌, ◌<◌, List, Some, Bool, [], ◌∷◌, ◌++◌, None, ◌≤◌, false, get_or, length}
use Rattle.cdb_store.specs.declared.store.Store.{Ghosts}
use Rattle.cdb_form.specs.declared.damage.Damage.{Damage}
use Rattle.cdb_form.specs.declared.damage.Damage.TheVariants as damage
use Rattle.cdb_read.specs.Sound.{first_fault, first_of, used_fault, is_right_slot, faults_behind, slots_fault, walk_entries, all_slots}
use Rattle.cdb_read.specs.declared.fault.ReadFault.{ReadFault}
use Rattle.cdb_read.specs.declared.fault.ReadFault.TheVariants.{Table, Record, Slot, Twice, Unindexed, Device, NoMemory}
use Rattle.std.specs.List.{range_with_len}
use Rattle.cdb_form.specs.Format.{WordPair, walk_of, table_number, slots_of}
use Rattle.cdb_read.specs.Lookup.{slots_at}
use Rattle.cdb_read.specs.Views.TableRecords.{Marks, entry_pairs}
use Rattle.cdb_read.specs.Views.RecordLists.{ListsMark}
use Rattle.cdb_read.specs.declared.checking.table_records.TableRecords.{TableRecords}

-- a fault reports a damage of the file, of which this is known
abbrev pub FaultTells : (Damage → Type 0) → ReadFault → Type 0
FaultTells known (Table n) = known (damage.Table n)
FaultTells known (Record place) = known (damage.Record place)
FaultTells known (Slot n i) = known (damage.Slot n i)
FaultTells known (Twice place) = known (damage.Twice place)
FaultTells known (Unindexed place) = known (damage.Unindexed place)
FaultTells known fault = ⊥

-- in each image
abbrev pub InEach : {S : Type 0} → Ghosts S → (List ℕ → Damage → Type 0) → S → Damage → Type 0
InEach s known new d = (b : List ℕ) → s.image new b → known b d

-- the store failed, or a damage of each image is reported
abbrev pub ReadTells : {S : Type 0} → Ghosts S → (List ℕ → Damage → Type 0) → (old new : S)
    → ReadFault → Type 0
ReadTells s known old new Device = s.failures old < s.failures new
ReadTells s known old new fault = FaultTells (InEach s known new) fault

-- or memory ran out
abbrev pub CheckTells : {S : Type 0} → Ghosts S → (List ℕ → Damage → Type 0) → (old new : S)
    → ReadFault → Type 0
CheckTells s known old new NoMemory = Unit {0}
CheckTells s known old new fault = ReadTells s known old new fault

-- a damage is the first fault of a file
abbrev pub IsFirstDamage : ℕ → List ℕ → Damage → Type 0
IsFirstDamage w b d = first_fault w b ≡ Some d

-- why a file isn't sound, or wasn't checked: its first fault, memory, or the store
abbrev pub CheckFails : {S : Type 0} → ℕ → Ghosts S → (old new : S) → ReadFault → Type 0
CheckFails w s old new fault = CheckTells s (IsFirstDamage w) old new fault

-- ---- What the parts of a check have found, if some slots pointed to some records before.

-- used slot i of table n has no fault, and its record is marked; or this is its fault
pub record SlotIsClear (n i : ℕ) (slot : WordPair) (is_reached : Bool) (old new : TableRecords)
    : Type 0 where
  pub none : (entries slots : List WordPair) → Marks old entries slots
      → used_fault slots (is_right_slot entries n slot is_reached) n i slot ≡ None
  pub marks : (entries slots : List WordPair) → Marks old entries slots
      → Marks new entries (slots ++ slot ∷ [])

abbrev pub SlotHas : ℕ → ℕ → WordPair → Bool → TableRecords → Damage → Type 0
SlotHas n i slot is_reached old d = (entries slots : List WordPair) → Marks old entries slots
    → used_fault slots (is_right_slot entries n slot is_reached) n i slot ≡ Some d

-- the slots of table n have no fault, and their records are marked; or this is their first one
pub record TableIsClear (w n : ℕ) (p : WordPair) (b : List ℕ) (old new : TableRecords) : Type 0 where
  pub none : (entries slots : List WordPair) → Marks old entries slots
      → faults_behind entries slots n (slots_at w b p) ≡ None
  pub marks : (entries slots : List WordPair) → Marks old entries slots
      → Marks new entries (slots ++ slots_at w b p)

abbrev pub TableHas : ℕ → ℕ → WordPair → TableRecords → List ℕ → Damage → Type 0
TableHas w n p old b d = (entries slots : List WordPair) → Marks old entries slots
    → faults_behind entries slots n (slots_at w b p) ≡ Some d

-- and the slots of all tables, before which no slot pointed to a record
pub record TablesAreClear (w : ℕ) (b : List ℕ) (old new : List TableRecords) : Type 0 where
  pub none : (entries : List WordPair) → ListsMark old entries []
      → first_of (slots_fault w b entries) (range_with_len 0 256) ≡ None
  pub marks : (entries : List WordPair) → ListsMark old entries []
      → ListsMark new entries (all_slots w b)

abbrev pub TablesHave : ℕ → List TableRecords → List ℕ → Damage → Type 0
TablesHave w old b d = (entries : List WordPair) → ListsMark old entries []
    → first_of (slots_fault w b entries) (range_with_len 0 256) ≡ Some d

-- the records are those of a walk without damage; or this is its damage
pub record HasEntries (w : ℕ) (b : List ℕ) (lists : List TableRecords) : Type 0 where
  pub whole : (walk_of w b).damage ≡ None
  pub marks : ListsMark lists (walk_entries w b) []

abbrev pub WalkHas : ℕ → List ℕ → Damage → Type 0
WalkHas w b d = (walk_of w b).damage ≡ Some d

-- ---- A table that is what its records make of it, put in their order.

-- each record has table n and a place of at most so much, and none is marked
pub record AreFresh (n top : ℕ) (e : TableRecords) : Type 0 where
  pub table : (k : ℕ) → k < length e.places.items → table_number (get_or e.hashes.items k 0) ≡ n
  pub fits : (k : ℕ) → k < length e.places.items → get_or e.places.items k 0 ≤ top
  pub unmarked : (k : ℕ) → k < length e.places.items → get_or e.marks.items k false ≡ false

-- and the slots of the table are those that they fill
pub record IsFilled (w n top : ℕ) (p : WordPair) (b : List ℕ) (e : TableRecords) : Type 0 where
  pub fresh : AreFresh n top e
  pub slots : slots_at w b p ≡ slots_of (entry_pairs e)
