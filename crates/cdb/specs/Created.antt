-- What a create comes to if nothing is refused, and what it leaves on the disk: a function of its options,
-- of what each file has and of what standard input has.
use Rattle.std.specs.Prelude.{ℕ, Bool, true, false, ◌||◌, ◌==◌, bytes_eq, if◌then◌else◌, List, [], ◌∷◌, ◌++◌, codes, length, nat_lt, Option, None, Some, option_map, Result, Ok, Err}
use Rattle.cdb_command.specs.Asked.{Asked}
use Rattle.cdb_command.specs.Asked as asked
use Rattle.cdb_command.specs.declared.options.MakeOptions.{MakeOptions}
use Rattle.cdb_command.specs.Refused.{Refused}
use Rattle.cdb_form.specs.Format.{head_size}
use Rattle.cdb_read.specs.Sound.{lacks_tables}
use Rattle.cdb_read.specs.declared.fault.ReadFault.TheVariants.{Short}
use Rattle.cdb_tool.specs.Runs.Made.{Made, made_file, made_lines, made_of}
use Rattle.cdb_show.specs.Status.{plain_status}
use Rattle.cdb_show.specs.declared.fault.Fault.{Fault}
use Rattle.cdb_show.specs.declared.fault.Fault.TheVariants.{Open, Read, NoBaseTables}
use Rattle.cdb_system.specs.State.{temporary_of}
use Rattle.cdb_system.specs.Oracle.{Disk, Outcome, command_outcome, ended, greatest_size, inputs_of, is_standard, oracle, word_size}

-- ---- the disk

-- a name has this, and the other names what they had
abbrev pub with_name : List ℕ → Option (List ℕ) → Disk → Disk
with_name name held disk other = if bytes_eq other name then held else disk other

-- what a create comes to: its answer, what it writes, its lines of duplicates, what each name has then,
-- and a name whose file may have any bytes
pub record Created : Type 0 where
  pub result : Result Unit Fault
  pub output : List ℕ
  pub lines : List ℕ
  pub disk : Disk
  pub unsure : Option (List ℕ)

-- ---- what is read

-- why the head of a base refuses it: the file is shorter than that, or no table has slots though bytes
-- follow
abbrev pub head_fault : ℕ → List ℕ → Option Fault
head_fault w bytes =
    if nat_lt (length bytes) (head_size w) then Some (Read Short)
    else if lacks_tables w bytes then Some NoBaseTables
    else None

abbrev pub unless_refused : Option Fault → List ℕ → Result (Option (List ℕ)) Fault
unless_refused (Some fault) bytes = Err fault
unless_refused None bytes = Ok (Some bytes)

abbrev pub base_in : ℕ → (file : Option (List ℕ)) → Result (Option (List ℕ)) Fault
base_in w None = Err Open
base_in w (Some bytes) = unless_refused (head_fault w bytes) bytes

-- the bytes of a base, if there is one, or why it is not amended
abbrev pub base_of : ℕ → Disk → Option (List ℕ) → Result (Option (List ℕ)) Fault
base_of w disk None = Ok None
base_of w disk (Some name) = base_in w (disk name)

-- ---- where the database goes

-- one of the files that are read has a name
abbrev pub is_input : (name : List ℕ) → List (List ℕ) → Bool
is_input name [] = false
is_input name (file ∷ files) =
    (if is_standard file then false else bytes_eq name file) || is_input name files

abbrev pub is_base : (name : List ℕ) → Option (List ℕ) → Bool
is_base name None = false
is_base name (Some base) = bytes_eq name base

abbrev pub is_read : (name : List ℕ) → (base : Option (List ℕ)) → List (List ℕ) → Bool
is_read name base inputs = is_base name base || is_input name inputs

-- a name is empty or ends in a slash
abbrev pub is_no_name : List ℕ → Bool
is_no_name [] = true
is_no_name (c ∷ []) = c == 47
is_no_name (c ∷ d ∷ name) = is_no_name (d ∷ name)

-- it is made in place: its temporary file is none, or itself
abbrev pub is_in_place : (name : List ℕ) → (temporary : Option (List ℕ)) → Bool
is_in_place name None = false
is_in_place name (Some temporary) =
    bytes_eq temporary (codes "-") || bytes_eq temporary name

-- it ends before anything is made, and the disk stays as it is: a file cannot be opened, say
abbrev pub unmade : Disk → Fault → Created
unmade disk fault =
    record { result = Err fault; output = []; lines = []; disk = disk; unsure = None }

abbrev pub unopened : Disk → Created
unopened disk = unmade disk Open

-- on standard output
abbrev pub on_output : Disk → (lines file : List ℕ) → Result Unit Fault → Created
on_output disk lines file (Ok done) =
    record { result = Ok tt; output = file; lines = lines; disk = disk; unsure = None }
on_output disk lines file (Err fault) =
    record { result = Err fault; output = []; lines = lines; disk = disk; unsure = None }

-- in the file of its name, which after a fault may have any bytes
abbrev pub in_place : Disk → (name lines file : List ℕ) → Result Unit Fault → Created
in_place disk name lines file (Ok done) = record {
  result = Ok tt;
  output = [];
  lines = lines;
  disk = with_name name (Some file) disk;
  unsure = None;
}
in_place disk name lines file (Err fault) =
    record { result = Err fault; output = []; lines = lines; disk = disk; unsure = Some name }

-- in a temporary file, which is gone then
abbrev pub in_temporary : Disk → (temporary name lines file : List ℕ) → Result Unit Fault → Created
in_temporary disk temporary name lines file (Ok done) = record {
  result = Ok tt;
  output = [];
  lines = lines;
  disk = with_name temporary None (with_name name (Some file) disk);
  unsure = None;
}
in_temporary disk temporary name lines file (Err fault) = record {
  result = Err fault;
  output = [];
  lines = lines;
  disk = with_name temporary None disk;
  unsure = None;
}

-- ---- a create

abbrev pub placed : ℕ → Disk → (name : List ℕ) → (base : Option (List ℕ)) → (inputs : List (List ℕ))
    → (temporary : Option (List ℕ)) → Made → Created
placed w disk name base inputs temporary made =
    let file = made_file w made in
    let lines = made_lines made in
    if is_standard name then on_output disk lines file made.result
    else if is_in_place name temporary then (
    if is_read name base inputs then unopened disk else in_place disk name lines file made.result
    )
    else if is_read (temporary_of name temporary) base inputs || is_no_name name then unopened disk
    else in_temporary disk (temporary_of name temporary) name lines file made.result

-- if its base is there and not refused, and all inputs are there
abbrev pub if_based : {A : Type 0} → Disk → Result A Fault → (A → Created) → Created
if_based disk (Ok old) create = create old
if_based disk (Err fault) create = unmade disk fault

abbrev pub if_opened : Disk → Option Created → Created
if_opened disk None = unopened disk
if_opened disk (Some created) = created

abbrev pub create_of : (w g : ℕ) → Disk → (input name : List ℕ) → (base : Option (List ℕ))
    → (inputs : List (List ℕ)) → (temporary : Option (List ℕ)) → MakeOptions → Created
create_of w g disk input name base inputs temporary o =
    if_based disk (base_of w disk base) (λ old. if_opened disk (option_map (λ files.
    placed w disk name base inputs temporary (made_of w g o old files input))
    (inputs_of disk inputs)))

-- ---- the oracle of every command

-- what a run comes to, what each name has then, and a name whose file may have any bytes
pub record Ending : Type 0 where
  pub outcome : Outcome
  pub disk : Disk
  pub unsure : Option (List ℕ)

-- a fault has its line after those of duplicates
abbrev pub with_lines : List ℕ → Outcome → Outcome
with_lines lines outcome =
    record { status = outcome.status; output = outcome.output; lines = lines ++ outcome.lines }

abbrev pub created_ending : Created → Ending
created_ending c = record {
  outcome = with_lines c.lines (ended plain_status c.output c.result);
  disk = c.disk;
  unsure = c.unsure;
}

-- what reads leaves the disk as it was
abbrev pub reading_ending : Disk → Option Outcome → Ending
reading_ending disk (Some outcome) = record { outcome = outcome; disk = disk; unsure = None }
reading_ending disk None = created_ending (unopened disk)

abbrev pub command_ending : Asked → Disk → (input : List ℕ) → Ending
command_ending (asked.Create name base inputs temporary options wide) disk input =
    created_ending (create_of (word_size wide) (greatest_size wide) disk input name base inputs
    temporary options)
command_ending command disk input = reading_ending disk (command_outcome command disk input)

abbrev pub foretell : Result Asked Refused → Disk → (input : List ℕ) → Ending
foretell (Ok command) disk input = command_ending command disk input
foretell (Err refused) disk input = reading_ending disk (oracle (Err refused) disk input)
