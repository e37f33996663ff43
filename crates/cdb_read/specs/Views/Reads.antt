-- Why reading a store ends.
use Rattle.std.specs.Prelude.{ℕ, ◌≡◌, ◌<◌, List, ◌++◌, codes, decimal, Some, None}
use Rattle.cdb_store.specs.declared.store.Store.{Ghosts}
pub use Rattle.cdb_store.specs.Reads.{OnlyReads}
use Rattle.cdb_form.specs.Format.{head_size, walk_of}
use Rattle.cdb_read.specs.declared.fault.ReadFault.{ReadFault}
use Rattle.cdb_read.specs.declared.fault.ReadFault.TheVariants.{Short, Device, NoMemory, Output, Table, Record, Slot, Twice, Unindexed}
use Rattle.cdb_store.specs.declared.store.StoreFault.{StoreFault}
use Rattle.cdb_store.specs.declared.store.StoreFault.TheVariants as store
use Rattle.cdb_form.specs.declared.damage.Damage.{Damage}
use Rattle.cdb_form.specs.declared.damage.Damage.TheVariants as damage
use Rattle.cdb_read.specs.Statistics.{key_lengths, value_lengths}
use Rattle.cdb_read.specs.Views.Stats.{Spreads}
use Rattle.cdb_read.specs.declared.statistics.lengths.Lengths.{Lengths}

-- why none was: the store is too short, and wasn't read, or it failed
abbrev pub OpeningFails : {S : Type 0} → ℕ → Ghosts S → S → S → ReadFault → Type 0
OpeningFails w s old new Short = (s.size old < head_size w) × (new ≡ old)
OpeningFails w s old new Device = OnlyReads s old new × (s.failures old < s.failures new)
OpeningFails w s old new fault = ⊥

-- a store failed in a call
abbrev pub StoreFails : {S : Type 0} → Ghosts S → (old new : S) → ReadFault → Type 0
StoreFails s old new Device = s.failures old < s.failures new
StoreFails s old new fault = ⊥

-- why a copy ended early: its writer failed, or the store did; and why a value wasn't given
abbrev pub CopyingFails : {S : Type 0} → Ghosts S → (old new : S) → ReadFault → Type 0
CopyingFails s old new Output = Unit {0}
CopyingFails s old new fault = StoreFails s old new fault

abbrev pub ValueFails : {S : Type 0} → Ghosts S → (old new : S) → ReadFault → Type 0
ValueFails s old new NoMemory = Unit {0}
ValueFails s old new fault = StoreFails s old new fault

-- ---- The faults of a reader: their numbers, what is said of them, and what they come from.

abbrev pub read_number : ReadFault → ℕ
read_number Short = 1
read_number (Table n) = 2
read_number (Record place) = 3
read_number (Slot n i) = 4
read_number (Twice place) = 5
read_number (Unindexed place) = 6
read_number Device = 7
read_number NoMemory = 8
read_number Output = 9

-- the message of a fault, after the part of the file that it names
abbrev pub read_message : ReadFault → List ℕ
read_message Short = codes "database shorter than its head"
read_message (Table n) = codes "outside the file"
read_message (Record place) = codes "not whole"
read_message (Slot n i) = codes "wrong"
read_message (Twice place) = codes "in two slots"
read_message (Unindexed place) = codes "in no slot"
read_message Device = codes "database cannot be read or written"
read_message NoMemory = codes "no memory"
read_message Output = codes "output cannot be written"

-- a table, and a record
abbrev pub table_text : ℕ → List ℕ
table_text n = codes "table " ++ decimal n ++ codes ": "

abbrev pub record_text : ℕ → List ℕ
record_text place = codes "record at " ++ decimal place ++ codes ": "

-- what a person reads of a fault: the part that it names, if it names one, and its message
abbrev pub read_display : ReadFault → List ℕ
read_display (Table n) = table_text n ++ read_message (Table n)
read_display (Record place) = record_text place ++ read_message (Record place)
read_display (Slot n i) = table_text n ++ codes "slot " ++ decimal i ++ codes ": "
    ++ read_message (Slot n i)
read_display (Twice place) = record_text place ++ read_message (Twice place)
read_display (Unindexed place) = record_text place ++ read_message (Unindexed place)
read_display fault = read_message fault

-- the fault that a damage of the file is, and that of a store
abbrev pub damage_fault : Damage → ReadFault
damage_fault damage.Short = Short
damage_fault (damage.Table n) = Table n
damage_fault (damage.Record place) = Record place
damage_fault (damage.Slot n i) = Slot n i
damage_fault (damage.Twice place) = Twice place
damage_fault (damage.Unindexed place) = Unindexed place

abbrev pub store_fault : StoreFault → ReadFault
store_fault store.Device = Device
store_fault store.NoMemory = NoMemory

-- ---- How long the records of a walk are, or why it wasn't counted.

-- the walk of a list of bytes has no damage, and its records have these lengths
pub record HasLengths (w : ℕ) (b : List ℕ) (lengths : Lengths) : Type 0 where
  pub whole : (walk_of w b).damage ≡ None
  pub keys : Spreads lengths.keys (key_lengths (walk_of w b).records)
  pub values : Spreads lengths.values (value_lengths (walk_of w b).records)

-- the store failed, or the walk of each image has this damage
abbrev pub LengthsFail : {S : Type 0} → ℕ → Ghosts S → (old new : S) → ReadFault → Type 0
LengthsFail w s old new Device = s.failures old < s.failures new
LengthsFail w s old new (Table n) =
    (b : List ℕ) → s.image new b → (walk_of w b).damage ≡ Some (damage.Table n)
LengthsFail w s old new (Record place) =
    (b : List ℕ) → s.image new b → (walk_of w b).damage ≡ Some (damage.Record place)
LengthsFail w s old new fault = ⊥
