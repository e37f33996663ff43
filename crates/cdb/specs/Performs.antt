-- What a command does: the calls on files, in their order, and what it writes on its output.
use Rattle.std.specs.Prelude.{ℕ, ◌≡◌, ◌⊎◌, Bool, true, false, List, [], map, option_map, string_bytes, Option, Some, Result, Ok, Err, IfErr, ⊤}
use Rattle.std.specs.Io.KnownBytes.{Keeps, append_known}
use Rattle.cdb_command.specs.Asked.{Asked, asked_in, has_wide_words}
use Rattle.cdb_command.specs.Asked as asked
use Rattle.cdb_command.specs.Usage.{usage_text, version_text}
use Rattle.cdb_command.specs.declared.command.Command.{Command}
use Rattle.cdb_command.specs.Refused.{Refused, usage_of}
use Rattle.cdb_command.specs.Refused as words
use Rattle.cdb_command.specs.declared.options.MakeOptions.{MakeOptions}
use Rattle.cdb_tool.specs.declared.runs.options.RunOptions.{RunOptions}
use Rattle.cdb_tool.specs.Runs.Make.{plain}
use Rattle.cdb_store.specs.contracts.memory.MemStoreStore.TheImpl.{ghosts as in_memory}
use Rattle.cdb_show.specs.Runs.WalkText.{dump_form, list_form}
use Rattle.cdb_show.specs.Runs.Flushed.{IsWhole}
use Rattle.cdb_show.specs.Runs.Query.{value_text}
use Rattle.cdb_show.specs.Status.{exit_status}
use Rattle.cdb_show.specs.Views.Output.{OutputSays}
use Rattle.cdb_show.specs.declared.fault.Fault.{Fault}
use Rattle.cdb_show.specs.declared.fault.Fault.TheVariants.{Output}
use Rattle.cdb.specs.Creating.{Creates}
use Rattle.cdb.specs.Handing.{Machine}
use Rattle.cdb.specs.Reasons.{CanHaveNoFile, HasReason, calls_made, left_reasons}
use Rattle.cdb_system.specs.Causes.{Explains, called_of}
use Rattle.cdb_system.specs.Opening.{none_left}
use Rattle.cdb_system.specs.State.{Failed, Given, Standard, State, calls_in, given_of, with_calls}
use Rattle.cdb_system.specs.declared.left.Left.{Left}
use Rattle.cdb_system.specs.Reading.{PerformsQuery, PerformsText, TellsStore, ChecksStore, PerformsOn, PerformsDifference, PerformsLookups, Tells}
use Rattle.cdb_system.specs.Telling.{refused_lines, SaysLine, Says, usage_status}

-- ---- the options of a run that creates, with the names of the inputs if duplicates are explained
abbrev pub IsShown : (explained : Bool) → (inputs : List (List ℕ)) → MakeOptions → (shown : RunOptions)
    → Type 0
IsShown false inputs options shown = shown ≡ plain options
IsShown true inputs options shown = (shown.make ≡ options)
    × (option_map (λ names. map string_bytes names.now) shown.names ≡ Some inputs)

-- ---- each command, in words of w bytes of files of at most so many; what is left open is handed back
abbrev pub Performs : {F I J M N R Y : Type 0} → (w most : ℕ) → Machine F I J M N R Y
    → (explained : Bool) → Asked → (input : Standard J) → (old new : State Y) → Left F M I J
    → Result Unit Fault → Type 0
Performs w most machine explained (asked.Query name key number lines wide) input old new left
    result =
    PerformsQuery machine.files (record {
      word = w;
      name = name;
      query = record { key = key; number = number; shown = value_text lines };
    }) old new left result
Performs w most machine explained (asked.Lookups name inputs number style wide) input old new left
    result =
    PerformsLookups machine.files (record {
      word = w;
      greatest = most;
      name = name;
      inputs = inputs;
      options = record { number = number; style = style };
    }) input old new left result
Performs w most machine explained (asked.Dump name style wide) input old new left result =
    PerformsText machine.files (record { word = w; name = name; form = dump_form style }) input old new left
    result
Performs w most machine explained (asked.Listing name style wide) input old new left result =
    PerformsText machine.files (record { word = w; name = name; form = list_form style }) input old new left
    result
Performs w most machine explained (asked.Stats name wide) input old new left result =
    PerformsOn machine.files (record {
      most = most;
      name = name;
      file = TellsStore w old.output new.output result machine.files.stores;
      taken = TellsStore w old.output new.output result in_memory;
    }) input old new left result
Performs w most machine explained (asked.Check name wide) input old new left result =
    PerformsOn machine.files (record {
      most = most;
      name = name;
      file = ChecksStore w old.output new.output result machine.files.stores;
      taken = ChecksStore w old.output new.output result in_memory;
    }) input old new left result
Performs w most machine explained (asked.Difference first second wide) input old new left result =
    PerformsDifference machine.files (record { word = w; first = first; second = second }) old new left result
Performs w most machine explained (asked.Create name base inputs temporary options wide) input old
    new left result =
    (shown : RunOptions) × IsShown explained inputs options shown
    × Creates machine (record {
      word = w;
      greatest = most;
      options = shown;
      name = name;
      base = base;
      inputs = inputs;
      temporary = temporary;
    }) input (with_calls machine.files old) (with_calls machine.files new) left result
Performs w most machine explained asked.Help input old new left result =
    (new.opened ≡ old.opened) × (left ≡ none_left) × Tells usage_text old.output new.output result
Performs w most machine explained asked.Version input old new left result =
    (new.opened ≡ old.opened) × (left ≡ none_left) × Tells version_text old.output new.output result

-- in words of 8 bytes or of 4
abbrev pub PerformsIn : {F I J M N R Y : Type 0} → (wide : Bool) → Machine F I J M N R Y → Given Asked J
    → (old new : State Y) → Left F M I J → Result Unit Fault → Type 0
PerformsIn true machine given old new left result =
    Performs 8 9223372036854775807 machine given.explained given.asked given.input old new left
    result
PerformsIn false machine given old new left result =
    Performs 4 4294967295 machine given.explained given.asked given.input old new left result

-- ---- the end of a command

-- what is written reaches the output, all of it if the command succeeds, if no more than a value is
-- missing, or if the output did not fail; an output that failed, which is then left unwritten, is a fault
-- if no other came than a missing value
pub record HandsOn (end final : Option (List ℕ)) (unwritten : Type 0)
    (answer result : Result Unit Fault) : Type 0 where
  pub held : List ℕ
  pub all : Keeps end (append_known final held)
  pub handed : IsWhole result → held ≡ []
  pub taken : (held ≡ []) ⊎ unwritten
  pub answered : (result ≡ answer) ⊎ (IsWhole answer × (result ≡ Err Output) × unwritten)

-- the command was performed, and what it wrote was forwarded; a fault of a reader, a store or a name has its reason
pub record Does {F I J M N R Y : Type 0} (machine : Machine F I J M N R Y)
    (given : Given Asked J) (old new : State Y) (left : Left F M I J) (unwritten : Type 0)
    (result : Result Unit Fault) : Type 0 where
  pub end : Option (List ℕ)
  pub answer : Result Unit Fault
  pub performs : PerformsIn (has_wide_words given.asked) machine given old
      (record new { output = end }) left answer
  pub hands : HandsOn end new.output unwritten answer result
  pub reason : IfErr result (HasReason (left_reasons machine given.input.feed
      (calls_made (calls_in machine.files old) old.named)
      (calls_made (calls_in machine.files new) new.named) left (CanHaveNoFile given.asked)))

-- ---- only a create calls anything on names, and says anything before it ends: its duplicates
abbrev pub IsUntouched : {T : Type 0} → Asked → (old new : T) → Type 0
IsUntouched (asked.Create name base inputs temporary options wide) old new = ⊤
IsUntouched command old new = new ≡ old

-- the exit status of a command
abbrev pub status_of : Command → Result Unit Fault → ℕ
status_of command (Ok done) = 0
status_of command (Err fault) = exit_status command fault

-- the words request nothing, or memory for them was refused
pub record AsksNothing {F I J M Y : Type 0} (given : Given (Result Asked Refused) J) (old new : State Y)
    (left : Left F M I J) (unsaid : Type 0) (status : ℕ) : Type 0 where
  pub refused : Refused
  pub why : (refused ≡ words.NoMemory) ⊎ (given.asked ≡ Err refused)
  pub line : SaysLine (refused_lines given.explained refused) old.errors new.errors unsaid
  pub untouched : new.opened ≡ old.opened
  pub none : left ≡ none_left
  pub same : new.named ≡ old.named
  pub kept : Keeps old.output new.output
  pub is_status : status ≡ usage_status (usage_of refused)

-- the command that they request was performed, and then its fault was said, and explained if it is to be
pub record AsksFor {F I J M N R Y : Type 0} (machine : Machine F I J M N R Y)
    (given : Given (Result Asked Refused) J) (old new : State Y) (left : Left F M I J)
    (failed : Failed) (status : ℕ) : Type 0
  where
    pub command : Command
    pub asks : given.asked ≡ Ok (asked_in command)
    pub result : Result Unit Fault
    pub before : Option (List ℕ)
    pub does : Does machine (given_of (asked_in command) given.explained given.input) old
        (record new { errors = before }) left failed.output result
    pub output : OutputSays (failed.output ⊎ failed.errors) result
    pub silent : IsUntouched (asked_in command) old.errors before
    pub same : IsUntouched (asked_in command) old.named new.named
    pub more : List ℕ
    pub explains : Explains given.explained (asked_in command) result failed.output
        (called_of (calls_in machine.files new) (machine.files.system.lacks new.opened) new.named
        failed.copy) more
    pub says : Says result more before new.errors failed.errors
    pub is_status : status ≡ status_of command result

-- from its words to its exit status: what was written, what standard output has of it, and what is said on standard
-- error; what failed of them, or of the calls on names; and which files are returned
abbrev pub Runs : {F I J M N R Y : Type 0} → Machine F I J M N R Y
    → Given (Result Asked Refused) J → (old new : State Y) → (final : Option (List ℕ)) → Left F M I J
    → Failed → (status : ℕ)
    → Type 0
Runs machine given old new final left failed status =
    AsksNothing given old new left failed.errors status
    ⊎ AsksFor machine given old (record new { output = final }) left failed status
