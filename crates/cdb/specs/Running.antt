-- A run of the program, from its words to its exit status.
use Rattle.std.specs.Prelude.{ℕ, ◌≡◌, List, [], Result}
use Rattle.cdb_command.specs.Asked.{Asked}
use Rattle.cdb_command.specs.Refused.{Refused}
use Rattle.cdb_names.specs.Folder.{NameCalls}
use Rattle.cdb_show.specs.Command.{explains_in, plan_of}
use Rattle.cdb_show.specs.Views.Output.{HasHandedOn, OutputFailed, held_by, output_bytes, writer_bytes}
use Rattle.cdb_show.specs.declared.output.Output.{Output as Writer}
use Rattle.cdb.specs.Foretold.{IsForetold, IsTaken}
use Rattle.cdb.specs.ForetoldCreate.{IsCreateForetold}
use Rattle.cdb.specs.Handing.{Machine}
use Rattle.cdb.specs.Performs.{Runs}
use Rattle.cdb.specs.declared.streams.Streams.{Streams}
use Rattle.cdb_system.specs.State.{Given, Standard, State, failed_of, given_of, state_of}
use Rattle.cdb_system.specs.declared.left.Left.{Left}

-- what it is given: what its words request, and standard input
abbrev pub given_by : {J : Type 0} → (words : List (List ℕ)) → (input : Standard J)
    → Given (Result Asked Refused) J
given_by words input = given_of (plan_of words) (explains_in words) input

-- the system, the calls on names, that memory for a copy of the name was refused which one of them refused
-- last, and both streams with what they hold
pub record World (Y O E : Type 0) : Type 1 where
  pub system : Y
  pub named : NameCalls
  pub unkept : Type 0
  pub output : Writer O
  pub errors : Writer E

abbrev pub world_of : {Y O E : Type 0} → Y → NameCalls → (unkept : Type 0)
    → Streams (Writer O) (Writer E) → World Y O E
world_of system named unkept streams = record {
  system = system;
  named = named;
  unkept = unkept;
  output = streams.output;
  errors = streams.errors;
}

-- with all that was written, of which a stream may hold some; and with what the writers took
abbrev pub written : {Y O E : Type 0} → World Y O E → State Y
written w = state_of w.system w.named (output_bytes w.output) (output_bytes w.errors)

abbrev pub taken : {Y O E : Type 0} → World Y O E → State Y
taken w = state_of w.system w.named (writer_bytes w.output) (writer_bytes w.errors)

-- what the words request was done, and its output forwarded, if no older one was held
pub record Answers {F I J M N R Y O E : Type 0} (machine : Machine F I J M N R Y)
    (given : Given (Result Asked Refused) J) (old new : World Y O E)
    (left : Left F M I J) (status : ℕ) : Type 0 where
  pub runs : Runs machine given (written old) (written new) (writer_bytes new.output) left
      (failed_of (OutputFailed new.output) (OutputFailed new.errors) new.unkept) status
  pub handed : held_by old.output ≡ [] → HasHandedOn new.output

-- and so were the lines; and if all was taken, what the oracle foretold came true
pub record IsRun {F I J M N R Y O E : Type 0} (machine : Machine F I J M N R Y)
    (given : Given (Result Asked Refused) J) (old new : World Y O E)
    (left : Left F M I J) (status : ℕ) : Type 0 where
  pub answers : Answers machine given old new left status
  pub said : HasHandedOn new.errors
  pub foretold : IsForetold machine.files given (written old) (taken new) left
      (IsTaken old.output new.output new.errors) status
  pub created : IsCreateForetold machine.files given (written old) (taken new) left
      (IsTaken old.output new.output new.errors) status
