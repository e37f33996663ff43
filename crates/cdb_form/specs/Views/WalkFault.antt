-- What kind of fault a fault of a walk is, and its number.
use Rattle.std.specs.Prelude.{ℕ, ⊤, List, [], ◌++◌, codes, decimal, Option, Some, None}
use Rattle.cdb_form.specs.Format.{Walked}
use Rattle.cdb_form.specs.declared.damage.Damage.{Damage}
use Rattle.cdb_form.specs.declared.damage.Damage.TheVariants as damage
use Rattle.cdb_form.specs.declared.reading.ReadStop.{ReadStop}
use Rattle.cdb_form.specs.declared.reading.ReadStop.TheVariants as unread
use Rattle.cdb_form.specs.declared.walk.fault.WalkFault.{WalkFault}
use Rattle.cdb_form.specs.declared.walk.fault.WalkFault.TheVariants.{Short, Table, Record, Input, NoMemory}

-- the fault is one of the file
abbrev pub IsDamage : WalkFault → Type 0
IsDamage Input = ⊥
IsDamage NoMemory = ⊥
IsDamage _ = ⊤

-- and that damage
abbrev pub damage_of : WalkFault → Option Damage
damage_of Short = Some damage.Short
damage_of (Table n) = Some (damage.Table n)
damage_of (Record place) = Some (damage.Record place)
damage_of Input = None
damage_of NoMemory = None

-- no record, and the damage that is the fault
abbrev pub stopped_by : WalkFault → Walked
stopped_by fault = record { records = []; damage = damage_of fault }

-- its number
abbrev pub walk_number : WalkFault → ℕ
walk_number Short = 1
walk_number (Table n) = 2
walk_number (Record place) = 3
walk_number Input = 4
walk_number NoMemory = 5

-- the fault of a walk whose reader did not give the bytes requested, if it is `early` that it
-- had no more
abbrev pub unread_walk : WalkFault → ReadStop → WalkFault
unread_walk early unread.Ended = early
unread_walk early unread.Failed = Input
unread_walk early unread.Spent = Input
unread_walk early unread.NoMemory = NoMemory

-- what is written beside the numbered part of a file that a fault names, and the part with its number
abbrev pub walk_message : WalkFault → List ℕ
walk_message Short = codes "database shorter than its head"
walk_message (Table n) = codes "outside the file"
walk_message (Record place) = codes "not whole"
walk_message Input = codes "database cannot be read or written"
walk_message NoMemory = codes "no memory"

abbrev pub walk_part : WalkFault → Option (List ℕ × ℕ)
walk_part (Table n) = Some (codes "table ", n)
walk_part (Record place) = Some (codes "record at ", place)
walk_part _ = None

-- what a person reads of a fault: the part that it names, if it names one, and its message
abbrev pub walk_display : WalkFault → List ℕ
walk_display (Table n) = codes "table " ++ decimal n ++ codes ": " ++ walk_message (Table n)
walk_display (Record place) =
    codes "record at " ++ decimal place ++ codes ": " ++ walk_message (Record place)
walk_display fault = walk_message fault
