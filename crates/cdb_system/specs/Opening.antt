-- The calls on files, and why one is not opened. The newest call comes first.
use Rattle.std.specs.Prelude.{ℕ, ◌≡◌, ◌≢◌, ◌⊎◌, Bool, true, false, List, [], ◌∷◌}
use Rattle.std.specs.Prelude.{Option, None, Some, Result, Ok, Err, string_bytes}
use Rattle.cdb_names.specs.Refusals.{is_of_system, may_be_for}
use Rattle.cdb_names.specs.declared.answer.Answer.{Answer}
use Rattle.cdb_names.specs.declared.answer.Answer.TheVariants.{No, Unknown, Yes}
use Rattle.cdb_names.specs.declared.answer.Lock.{Lock}
use Rattle.cdb_names.specs.declared.answer.Lock.TheVariants.{Held}
use Rattle.cdb_names.specs.declared.name_fault.NameFault.{NameFault}
use Rattle.cdb_names.specs.declared.name_fault.NameFault.TheVariants as why
use Rattle.cdb_names.specs.declared.name_trace.NameCall.TheVariants as call
use Rattle.cdb_names.specs.declared.refusal.Cause.{Cause}
use Rattle.cdb_names.specs.declared.refusal.Cause.TheVariants.{Failed, Lost}
use Rattle.cdb_names.specs.declared.refusal.Refusal.{Refusal}
use Rattle.cdb_system.specs.declared.left.Left.{Left}
use Rattle.cdb_system.specs.declared.open_trace.OpenCall.{OpenCall}
use Rattle.cdb_system.specs.declared.open_trace.OpenCall.TheVariants.{Emptied, Locked, Own, Stream, ToEmpty}
use Rattle.cdb_system.specs.declared.open_trace.OpenCall.TheVariants.{Unopened}
use Rattle.cdb_show.specs.declared.inputs.Inputs.{Inputs}
use Rattle.cdb_show.specs.declared.fault.Fault.{Fault}
use Rattle.cdb_show.specs.declared.fault.Fault.TheVariants.{Open, NoMemory, Rename}

-- the calls, each with its name
abbrev pub OpenCalls : Type 0
OpenCalls = List (OpenCall × List ℕ)

-- the fault of a file that was not opened
abbrev pub unopened : NameFault → Fault
unopened why.Failed = Open
unopened why.NoMemory = NoMemory

-- the file of a name was not opened, which is this fault, for this cause
pub record Misses (name : List ℕ) (old new : OpenCalls) (fault : Fault) : Type 0 where
  pub why : NameFault
  pub found : Cause
  pub is : fault ≡ unopened why
  pub calls : new ≡ (Unopened why found, name) ∷ old

-- what it comes to whether a name has the file in which its database is made
abbrev pub named_as : Answer → Result Unit Fault
named_as Yes = Ok tt
named_as answer = Err Rename

-- the file of a name was opened to be emptied, no other process holds its lock, and then a call checked
-- whether the name has the file
pub record AsksToEmpty (name : List ℕ) (old new : OpenCalls) (answer : Answer) : Type 0 where
  pub lock : Lock
  pub free : lock ≢ Held
  pub calls : new ≡ (Own answer, name) ∷ (Locked lock, name) ∷ (ToEmpty, name) ∷ old

-- it has
abbrev pub TakesToEmpty : (name : List ℕ) → (old new : OpenCalls) → Type 0
TakesToEmpty name old new = AsksToEmpty name old new Yes

-- so were the last calls
abbrev pub MayEmpty : (name : List ℕ) → OpenCalls → Type 0
MayEmpty name calls = (before : OpenCalls) × TakesToEmpty name before calls

-- and then it was emptied
pub record Empties (name : List ℕ) (old new : OpenCalls) : Type 0 where
  pub locked : OpenCalls
  pub takes : TakesToEmpty name old locked
  pub calls : new ≡ (Emptied, name) ∷ locked

-- or it was not: it was not opened, or another process holds its lock, or the name was not said to have
-- it, or it cannot be emptied
abbrev pub MissesEmptying : (name : List ℕ) → (old new : OpenCalls) → Fault → Type 0
MissesEmptying name old new fault =
    Misses name old new fault
    ⊎ ((fault ≡ Open) × (new ≡ (Locked Held, name) ∷ (ToEmpty, name) ∷ old))
    ⊎ ((answer : Answer) × AsksToEmpty name old new answer × (named_as answer ≡ Err fault))
    ⊎ ((locked : OpenCalls) × TakesToEmpty name old locked × Misses name locked new fault)

-- no file is returned; or one that was read, a base if there is one, or an old database and a new
abbrev pub none_left : {F M S I : Type 0} → Left F M S I
none_left = record { read = None; other = None; made = None; stream = None; inputs = None; input = None }

abbrev pub read_left : {F M S I : Type 0} → F → Left F M S I
read_left file = record none_left { read = Some file }

abbrev pub base_left : {F M S I : Type 0} → Option F → Left F M S I
base_left base = record none_left { read = base }

abbrev pub both_left : {F M S I : Type 0} → (old new : F) → Left F M S I
both_left old new = record none_left { read = Some old; other = Some new }

-- or a file that was read from its start on, or standard input
abbrev pub stream_left : {F M S I : Type 0} → S → Left F M S I
stream_left file = record none_left { stream = Some file }

abbrev pub input_left : {F M S I : Type 0} → I → Left F M S I
input_left input = record none_left { input = Some input }

-- or a file in which keys were looked up, and the readers of the inputs that gave them
abbrev pub looked_left : {F M S I : Type 0} → F → Inputs S I → Left F M S I
looked_left file inputs = record none_left {
  read = Some file;
  inputs = Some inputs.readers;
  input = Some inputs.shared;
}

-- this cause, if it fits
abbrev pub if_fits : (fits : Bool) → Cause → Cause
if_fits true why = why
if_fits false why = Failed

-- the name that a call refused, if it did, without another name, and the cause. A file that was not
-- opened has its own, and one that lost its name; a lock and a look have this one, if they may
abbrev pub refused_by : Cause → OpenCall → (name : List ℕ) → Option (List ℕ × List ℕ × Cause)
refused_by why (Unopened fault found) name = Some (name, [], found)
refused_by why (Locked Held) name = Some (name, [], if_fits (may_be_for (call.Locked Held) why) why)
refused_by why (Stream Unknown) name = Some (name, [], if_fits (is_of_system why) why)
refused_by why (Own No) name = Some (name, [], Lost)
refused_by why (Own Unknown) name = Some (name, [], if_fits (is_of_system why) why)
refused_by why call name = None

-- the newest of these
abbrev pub if_none : {A : Type 0} → Option A → Option A → Option A
if_none None before = before
if_none (Some refused) before = Some refused

abbrev pub refused_open : Cause → OpenCalls → Option (List ℕ × List ℕ × Cause)
refused_open why [] = None
refused_open why ((call, name) ∷ calls) =
    if_none (refused_by why call name) (refused_open why calls)

-- a refusal is that of the newest call that refused a name
abbrev pub IsOpenRefusal : Refusal → OpenCalls → Type 0
IsOpenRefusal refusal calls = refused_open refusal.cause calls
    ≡ Some (string_bytes refusal.name, string_bytes refusal.other, refusal.cause)

-- no call refused a name
abbrev pub IsUnrefused : OpenCalls → Type 0
IsUnrefused calls = (why : Cause) → refused_open why calls ≡ None
