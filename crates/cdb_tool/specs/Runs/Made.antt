-- What a run that makes a database comes to, if nothing is refused: a function of its options and of the
-- bytes that it reads.
use Rattle.std.specs.Prelude.{ℕ, nat_lt, if◌then◌else◌, List, [], Option, None, Some, option_map, is_some, Result, Ok, Err}
use Rattle.cdb_command.specs.declared.options.MakeOptions.{MakeOptions}
use Rattle.cdb_form.specs.Format.{file_size, file_bytes, KeyValue, Walked, walk_of}
use Rattle.cdb_store.specs.declared.make_fault.MakeFault.TheVariants.{TooBig}
use Rattle.cdb_read.specs.Views.Reads.{damage_fault}
use Rattle.cdb_show.specs.Message.{Told, plain_lines}
use Rattle.cdb_tool.specs.Runs.Make.{Task, course_of, plain, task_of, records_of}
use Rattle.cdb_show.specs.Runs.Incoming.{from_inputs}
use Rattle.cdb_show.specs.Runs.Inputs.{input_form}
use Rattle.cdb_show.specs.declared.fault.Fault.{Fault}
use Rattle.cdb_show.specs.declared.fault.Fault.TheVariants.{Make, Read}
use Rattle.cdb_show.specs.Runs.Given.{Given, given_from}

-- ---- the inputs

-- ---- the run

-- the records that are left, the duplicates that are reported, and whether they are a database, or the first fault
pub record Made : Type 0 where
  pub records : List KeyValue
  pub told : List Told
  pub result : Result Unit Fault

abbrev pub ended_by : (first last : Option Fault) → Result Unit Fault
ended_by (Some fault) last = Err fault
ended_by None (Some fault) = Err fault
ended_by None None = Ok tt

-- of what its inputs say
abbrev pub made_from : ℕ → Task → Given → Made
made_from w t given =
    let course = course_of w t (from_inputs 1 given.items) in
    record {
      records = course.records;
      told = course.told;
      result = ended_by course.ended given.fault;
    }

-- why a base cannot be amended: its file would pass the limit, or its walk has a damage
abbrev pub walk_fault : (w limit : ℕ) → Walked → Option Fault
walk_fault w limit walk =
    if nat_lt limit (file_size w walk.records) then Some (Make TooBig)
    else option_map (λ damage. Read (damage_fault damage)) walk.damage

abbrev pub base_fault : (w limit : ℕ) → Option (List ℕ) → Option Fault
base_fault w limit None = None
base_fault w limit (Some b) = walk_fault w limit (walk_of w b)

abbrev pub unless_stopped : Option Fault → Made → Made
unless_stopped None made = made
unless_stopped (Some fault) made = record { records = []; told = []; result = Err fault }

-- in words of w bytes, with lengths in texts of at most g
abbrev pub made_of : (w g : ℕ) → MakeOptions → (base : Option (List ℕ))
    → (inputs : List (Option (List ℕ))) → (shared : List ℕ) → Made
made_of w g o base inputs shared =
    unless_stopped (base_fault w o.limit base) (made_from w (task_of (plain o) (records_of w base))
    (given_from (input_form o.style (is_some (records_of w base))) g 1 inputs shared))

-- the lines of its duplicates, if none is explained
abbrev pub made_lines : Made → List ℕ
made_lines made = plain_lines made.told

-- the database
abbrev pub made_file : ℕ → Made → List ℕ
made_file w made = file_bytes w made.records
