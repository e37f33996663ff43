-- What is said of a fault: where it is, what it is, and the line on standard error.
use Rattle.std.specs.Prelude.{ℕ, ◌-◌, nat_lt, if◌then◌else◌, List, [], ◌∷◌, ◌++◌, decimal, codes, Option, None, Some, map, take, length, get_or, bytes_eq, string_bytes, String, flat_map, ◌≡◌}
use Rattle.std.specs.Io.KnownBytes.{Appends}
use denote.Bor.{Bor}
use Rattle.cdb_command.specs.Refused.{parts_line}
use Rattle.cdb_form.specs.Views.KnownBytes.{AppendsPrefix}
use Rattle.cdb_form.specs.declared.text.fault.TextFault.{TextFault}
use Rattle.cdb_form.specs.declared.text.fault.TextFault.TheVariants as text
use Rattle.cdb_form.specs.declared.walk.fault.WalkFault.{WalkFault}
use Rattle.cdb_form.specs.declared.walk.fault.WalkFault.TheVariants as walk
use Rattle.cdb_form.specs.Views.TextFault.{text_message}
use Rattle.cdb_form.specs.Views.WalkFault.{walk_message}
use Rattle.cdb_store.specs.MakeFault.{make_message}
use Rattle.cdb_store.specs.declared.make_fault.MakeFault.TheVariants.{TooBig}
use Rattle.cdb_read.specs.Views.Reads.{read_message}
use Rattle.cdb_read.specs.declared.fault.ReadFault.{ReadFault}
use Rattle.cdb_read.specs.declared.fault.ReadFault.TheVariants as read
use Rattle.cdb_show.specs.declared.message.Place.{Place}
use Rattle.cdb_show.specs.declared.message.Place.TheVariants.{Nowhere, Input, Byte, Table, Record, Slot}
use Rattle.cdb_show.specs.declared.fault.Fault.{Fault}
use Rattle.cdb_show.specs.declared.fault.Fault.TheVariants.{Text, Make, Read, Walk, Output, Duplicate, Missing, Long, Open, Rename, NoMemory, Old, New, NoOldTables, NoNewTables, NoBaseTables}

-- what a fault is
abbrev pub fault_message : Fault → List ℕ
fault_message (Text input fault) = text_message fault
fault_message (Make fault) = make_message fault
fault_message Duplicate = codes "stopped at a duplicate key"
fault_message Missing = codes "no such value"
fault_message (Read fault) = read_message fault
fault_message (Walk fault) = walk_message fault
fault_message Output = codes "output cannot be written"
fault_message Long = make_message TooBig
fault_message Open = codes "file cannot be opened"
fault_message Rename = codes "database cannot be renamed"
fault_message NoMemory = codes "no memory"
fault_message (Old fault) = read_message fault
fault_message (New fault) = read_message fault
fault_message NoOldTables = codes "no tables before its records"
fault_message NoNewTables = codes "no tables before its records"
fault_message NoBaseTables = codes "no tables before its records"

-- a part of what is named by its number
abbrev pub numbered : List ℕ → ℕ → List ℕ
numbered part n = part ++ decimal n ++ codes ": "

-- how a place is said
abbrev pub said_place : Place → List ℕ
said_place Nowhere = []
said_place (Input input) = numbered (codes "input ") input
said_place (Byte input at) = numbered (codes "input ") input ++ numbered (codes "byte ") at
said_place (Table n) = numbered (codes "table ") n
said_place (Record at) = numbered (codes "record at ") at
said_place (Slot n i) = numbered (codes "table ") n ++ numbered (codes "slot ") i

-- where the fault of an input is: at a byte of it, or in it as a whole
abbrev pub text_place : ℕ → TextFault → Place
text_place input (text.Syntax at) = Byte input at
text_place input (text.Ended at) = Byte input at
text_place input (text.Large at) = Byte input at
text_place input text.NoMemory = Nowhere
text_place input fault = Input input

-- where the fault of a database file is
abbrev pub walk_place : WalkFault → Place
walk_place (walk.Table n) = Table n
walk_place (walk.Record place) = Record place
walk_place fault = Nowhere

-- where that of a database in a store is
abbrev pub read_place : ReadFault → Place
read_place (read.Table n) = Table n
read_place (read.Record place) = Record place
read_place (read.Slot n i) = Slot n i
read_place (read.Twice place) = Record place
read_place (read.Unindexed place) = Record place
read_place fault = Nowhere

-- where a fault is
abbrev pub fault_place : Fault → Place
fault_place (Text input fault) = text_place input fault
fault_place (Read fault) = read_place fault
fault_place (Walk fault) = walk_place fault
fault_place (Old fault) = read_place fault
fault_place (New fault) = read_place fault
fault_place fault = Nowhere

-- of some databases, which one it is
abbrev pub fault_side : Fault → List ℕ
fault_side (Old fault) = codes "old database: "
fault_side (New fault) = codes "new database: "
fault_side NoOldTables = codes "old database: "
fault_side NoNewTables = codes "new database: "
fault_side NoBaseTables = codes "base database: "
fault_side fault = []

-- where a fault is and what it is
abbrev pub fault_text : Fault → List ℕ
fault_text fault = fault_side fault ++ said_place (fault_place fault) ++ fault_message fault

-- the line that says it
abbrev pub said_line : Fault → List ℕ
said_line fault = codes "cdb: " ++ fault_text fault ++ codes "\n"

-- the line of a fault: no line if a value is missing, which the exit status reports
abbrev pub fault_line : Fault → List ℕ
fault_line Missing = []
fault_line fault = said_line fault

-- ---- duplicates

-- what an input of a name is called
abbrev pub said_input : List ℕ → List ℕ
said_input name = if bytes_eq name (codes "-") then codes "standard input" else name

-- an input, counted from 1. A hyphen is standard input, and no inputs are one
abbrev pub input_at : List (List ℕ) → (number : ℕ) → List ℕ
input_at inputs number = said_input (get_or inputs (number - 1) (codes "-"))

-- what follows as much of a key as is shown
abbrev pub after_key : (key : List ℕ) → List ℕ
after_key key = if nat_lt 256 (length key) then codes "..." else []

-- the line that explains a duplicate: the name of its input, its line there, and its key
abbrev pub key_line : (name : List ℕ) → (line : ℕ) → (key : List ℕ) → List ℕ
key_line name line key = parts_line (([], name) ∷ (codes ": line ", decimal line)
    ∷ (codes ": key ", take 256 key) ∷ (after_key key, []) ∷ [])

-- a record whose key was there already: its input, its number there, and its key
pub record Told : Type 0 where
  pub input : ℕ
  pub number : ℕ
  pub key : List ℕ

-- the line of a duplicate: its input and its number there
abbrev pub duplicate_line : ℕ → ℕ → List ℕ
duplicate_line input number = codes "cdb: " ++ numbered (codes "input ") input
    ++ numbered (codes "record ") number ++ codes "duplicate key\n"

-- and the one that explains it, if the names of the inputs are given for that
abbrev pub duplicate_lines : {Z : Type 0} → Option (Bor (List (String Z))) → Told
    → (line : ℕ) → List ℕ
duplicate_lines None d line = duplicate_line d.input d.number
duplicate_lines (Some names) d line = duplicate_line d.input d.number
    ++ key_line (input_at (map string_bytes names.now) d.input) line d.key

-- the lines of some duplicates, each of which begins at some line of its input
abbrev pub AreLines : {Z : Type 0} → Option (Bor (List (String Z))) → List Told
    → (text : List ℕ) → Type 0
AreLines names [] text = text ≡ []
AreLines names (d ∷ duplicates) text = (line : ℕ) × (rest : List ℕ)
    × (text ≡ duplicate_lines names d line ++ rest) × AreLines names duplicates rest

-- these lines if no duplicate is explained
abbrev pub plain_lines : List Told → List ℕ
plain_lines duplicates = flat_map (λ d. duplicate_line d.input d.number) duplicates

-- they were written, or a prefix of them
pub record TellsEach {Z : Type 0} (names : Option (Bor (List (String Z)))) (duplicates : List Told)
    (old new : Option (List ℕ)) : Type 0 where
  pub text : List ℕ
  pub are : AreLines names duplicates text
  pub written : Appends old new text

pub record TellsPart {Z : Type 0} (names : Option (Bor (List (String Z))))
    (duplicates : List Told) (old new : Option (List ℕ)) : Type 0 where
  pub text : List ℕ
  pub are : AreLines names duplicates text
  pub written : AppendsPrefix old new text
