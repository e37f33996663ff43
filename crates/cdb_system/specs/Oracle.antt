-- What the program comes to if nothing is refused: a function of its words, of what each file has and
-- of what standard input has. Of a create it says nothing.
use Rattle.std.specs.Prelude.{ℕ, Bool, bytes_eq, nat_lt, if◌then◌else◌, List, [], ◌∷◌, length, codes, Option, None, Some, option_map, Result, Ok, Err}
use Rattle.cdb_command.specs.Asked.{Asked}
use Rattle.cdb_command.specs.Asked as asked
use Rattle.cdb_command.specs.Usage.{usage_text, version_text}
use Rattle.cdb_command.specs.Refused.{Refused, usage_of}
use Rattle.cdb_form.specs.Format.{head_size, walk_of}
use Rattle.cdb_form.specs.Text.Parse.{amending_text}
use Rattle.cdb_form.specs.declared.damage.Damage.{Damage}
use Rattle.cdb_form.specs.declared.damage.Damage.TheVariants.{Short}
use Rattle.cdb_read.specs.Sound.{first_fault}
use Rattle.cdb_read.specs.Statistics.{statistics_damage}
use Rattle.cdb_read.specs.Views.Reads.{damage_fault}
use Rattle.cdb_show.specs.Message.{fault_line}
use Rattle.cdb_show.specs.Runs.Difference.{difference_of, heads_fault}
use Rattle.cdb_show.specs.Runs.WalkText.{Form, dump_form, list_form, walk_text}
use Rattle.cdb_show.specs.Runs.Lookups.{records_asked}
use Rattle.cdb_show.specs.Runs.Query.{Query, query_text, query_answer, value_text}
use Rattle.cdb_show.specs.Runs.Stats.{statistics_text}
use Rattle.cdb_show.specs.Status.{check_status, plain_status}
use Rattle.cdb_show.specs.declared.fault.Fault.{Fault}
use Rattle.cdb_show.specs.declared.fault.Fault.TheVariants.{Read, Open, Long}
use Rattle.cdb_show.specs.declared.runs.lookup_options.LookupOptions.{LookupOptions}
use Rattle.cdb_system.specs.Telling.{usage_line, usage_status}

-- what a run comes to: its exit status, what it writes, and its lines on standard error
pub record Outcome : Type 0 where
  pub status : ℕ
  pub output : List ℕ
  pub lines : List ℕ

-- it wrote this, and ended so: a fault has its status and its line
abbrev pub ended : (Fault → ℕ) → List ℕ → Result Unit Fault → Outcome
ended status output (Ok done) = record { status = 0; output = output; lines = [] }
ended status output (Err fault) =
    record { status = status fault; output = output; lines = fault_line fault }

-- it met this damage of a file, or none
abbrev pub met : Option Damage → Result Unit Fault
met None = Ok tt
met (Some damage) = Err (Read (damage_fault damage))

-- what is written only of a file without damage
abbrev pub unless_damaged : Option Damage → List ℕ → List ℕ
unless_damaged None text = text
unless_damaged (Some damage) text = []

-- ---- what a command makes of the bytes of a file, in words of w bytes

-- the damage of a file that is shorter than its head, and this one of another
abbrev pub short_or : ℕ → List ℕ → Option Damage → Option Damage
short_or w bytes damage = if nat_lt (length bytes) (head_size w) then Some Short else damage

-- the values of a key
abbrev pub query_outcome : ℕ → Query → List ℕ → Outcome
query_outcome w q bytes =
    if nat_lt (length bytes) (head_size w) then ended plain_status [] (met (Some Short))
    else ended plain_status (query_text w bytes q) (query_answer w bytes q)

-- the records of the keys that inputs give, in texts with lengths of at most g
abbrev pub lookups_outcome : (w g : ℕ) → LookupOptions → (inputs : List (Option (List ℕ)))
    → (shared : List ℕ) → List ℕ → Outcome
lookups_outcome w g options inputs shared bytes =
    if nat_lt (length bytes) (head_size w) then ended plain_status [] (met (Some Short))
    else let looked = records_asked w g options inputs shared bytes in
    ended plain_status looked.text looked.answer

-- the whole records before the damage, or their keys
abbrev pub text_outcome : ℕ → Form → List ℕ → Outcome
text_outcome w form bytes =
    let walk = walk_of w bytes in ended plain_status (walk_text form walk) (met walk.damage)

-- the statistics
abbrev pub stats_outcome : ℕ → List ℕ → Outcome
stats_outcome w bytes =
    let damage = short_or w bytes (statistics_damage w bytes) in
    ended plain_status (unless_damaged damage (statistics_text w bytes)) (met damage)

-- whether it is sound
abbrev pub check_outcome : ℕ → List ℕ → Outcome
check_outcome w bytes = ended check_status [] (met (first_fault w bytes))

-- a fault, or a text
abbrev pub unless_fault : Option Fault → List ℕ → Outcome
unless_fault None text = ended plain_status text (Ok tt)
unless_fault (Some fault) text = ended plain_status [] (Err fault)

-- what changed between two files, unless their heads say why they are not compared
abbrev pub difference_outcome : ℕ → (old new : List ℕ) → Outcome
difference_outcome w old new =
    unless_fault (heads_fault w old new) (amending_text (difference_of w old new))

-- ---- the files

-- what the file of each name has, if there is one
abbrev pub Disk : Type 0
Disk = List ℕ → Option (List ℕ)

-- a name without a file cannot be opened
abbrev pub of_file : Option (List ℕ) → (List ℕ → Outcome) → Outcome
of_file None outcome = ended plain_status [] (Err Open)
of_file (Some bytes) outcome = outcome bytes

-- standard input is read if no name is given
abbrev pub of_read : Disk → (input : List ℕ) → Option (List ℕ) → (List ℕ → Outcome) → Outcome
of_read disk input (Some name) outcome = of_file (disk name) outcome
of_read disk input None outcome = outcome input

-- or taken into memory, if it has at most so many bytes
abbrev pub of_taken : ℕ → Disk → (input : List ℕ) → Option (List ℕ) → (List ℕ → Outcome) → Outcome
of_taken most disk input (Some name) outcome = of_file (disk name) outcome
of_taken most disk input None outcome =
    if nat_lt most (length input) then ended plain_status [] (Err Long) else outcome input

-- a name is that of standard input
abbrev pub is_standard : List ℕ → Bool
is_standard name = bytes_eq name (codes "-")

-- both, if there are both
abbrev pub both : {A B C : Type 0} → (A → B → C) → Option A → Option B → Option C
both f (Some a) (Some b) = Some (f a b)
both f (Some a) None = None
both f None b = None

-- the bytes of an input, or none for standard input; and those of all
abbrev pub input_of : Disk → List ℕ → Option (Option (List ℕ))
input_of disk name =
    if is_standard name then Some None else option_map (λ bytes. Some bytes) (disk name)

abbrev pub each_of : Disk → List (List ℕ) → Option (List (Option (List ℕ)))
each_of disk [] = Some []
each_of disk (name ∷ names) = both (λ x xs. x ∷ xs) (input_of disk name) (each_of disk names)

-- without a name, standard input is read
abbrev pub inputs_of : Disk → List (List ℕ) → Option (List (Option (List ℕ)))
inputs_of disk [] = Some (None ∷ [])
inputs_of disk (name ∷ names) = each_of disk (name ∷ names)

-- they are all there, or one cannot be opened
abbrev pub of_inputs : Option (List (Option (List ℕ))) → (List (Option (List ℕ)) → Outcome) → Outcome
of_inputs None outcome = ended plain_status [] (Err Open)
of_inputs (Some inputs) outcome = outcome inputs

-- ---- the oracle

-- the number of bytes that a word has, and how many a file that is taken into memory
abbrev pub word_size : (wide : Bool) → ℕ
word_size wide = if wide then 8 else 4

abbrev pub greatest_size : (wide : Bool) → ℕ
greatest_size wide = if wide then 9223372036854775807 else 4294967295

-- of a command
abbrev pub command_outcome : Asked → Disk → (input : List ℕ) → Option Outcome
command_outcome (asked.Query name key number lines wide) disk input =
    Some (of_file (disk name)
    (query_outcome (word_size wide)
    (record { key = key; number = number; shown = value_text lines })))
command_outcome (asked.Lookups name inputs number style wide) disk input =
    Some (of_file (disk name) (λ bytes. of_inputs (inputs_of disk inputs) (λ files.
    lookups_outcome (word_size wide) (greatest_size wide)
    (record { number = number; style = style }) files input bytes)))
command_outcome (asked.Dump name style wide) disk input =
    Some (of_read disk input name (text_outcome (word_size wide) (dump_form style)))
command_outcome (asked.Listing name style wide) disk input =
    Some (of_read disk input name (text_outcome (word_size wide) (list_form style)))
command_outcome (asked.Stats name wide) disk input =
    Some (of_taken (greatest_size wide) disk input name (stats_outcome (word_size wide)))
command_outcome (asked.Check name wide) disk input =
    Some (of_taken (greatest_size wide) disk input name (check_outcome (word_size wide)))
command_outcome (asked.Difference old new wide) disk input =
    Some (of_file (disk old) (λ bytes.
    of_file (disk new) (difference_outcome (word_size wide) bytes)))
command_outcome (asked.Create name base inputs temporary options wide) disk input = None
command_outcome asked.Help disk input = Some (ended plain_status usage_text (Ok tt))
command_outcome asked.Version disk input = Some (ended plain_status version_text (Ok tt))

-- of what the words request, as they are planned
abbrev pub oracle : Result Asked Refused → Disk → (input : List ℕ) → Option Outcome
oracle (Ok command) disk input = command_outcome command disk input
oracle (Err refused) disk input =
    Some (record {
      status = usage_status (usage_of refused);
      output = [];
      lines = usage_line (usage_of refused);
    })
