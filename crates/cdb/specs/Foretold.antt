-- What the oracle says of a run comes true if the calls on files were answered as the files are.
use Rattle.std.specs.Prelude.{ℕ, ◌≡◌, ◌⊎◌, Bool, true, false, List, [], ◌++◌, Option, Result, Ok, Err, IfOk, ⊤}
use Rattle.std.specs.Io.KnownBytes.{Appends}
use Rattle.cdb_command.specs.Asked.{Asked}
use Rattle.cdb_command.specs.Asked as asked
use Rattle.cdb_command.specs.Refused.{Refused}
use Rattle.cdb_form.specs.Views.KnownBytes.{AppendsPrefix}
use Rattle.cdb_show.specs.Message.{fault_line}
use Rattle.cdb_show.specs.Views.Output.{WriterFailed, held_by}
use Rattle.cdb_show.specs.declared.fault.Fault.{Fault}
use Rattle.cdb_show.specs.declared.fault.Fault.TheVariants.{NoMemory}
use Rattle.cdb_show.specs.declared.output.Output.{Output as Writer}
use Rattle.cdb.specs.Created.{foretell}
use Rattle.cdb_system.specs.State.{Files, Given, State}
use Rattle.cdb_system.specs.Oracle.{Disk, Outcome}
use Rattle.cdb_system.specs.Answered.{Honest, reads_in_turn, IsRefusal}
use Rattle.cdb_system.specs.declared.left.Left.{Left}

-- ---- what comes of it

-- these lines were said; and if faults are explained, more may follow them
abbrev pub SaysLines : (explained : Bool) → (lines : List ℕ) → (told said : Option (List ℕ)) → Type 0
SaysLines false lines told said = Appends told said lines
SaysLines true lines told said = (more : List ℕ) × Appends told said (lines ++ more)

-- what was said came true
pub record ComesTrue (o : Outcome) (explained : Bool) (start final told said : Option (List ℕ))
    (status : ℕ) : Type 0 where
  pub is_status : status ≡ o.status
  pub output : Appends start final o.output
  pub lines : SaysLines explained o.lines told said

-- a refusal of what the words request
abbrev pub MayFail : (planned : Result Asked Refused) → Fault → Type 0
MayFail (Ok command) fault = IsRefusal (reads_in_turn command) fault
MayFail (Err refused) fault = fault ≡ NoMemory

-- that was reported, and what was written is a prefix
pub record IsRefused (planned : Result Asked Refused) (o : Outcome) (explained : Bool)
    (start final told said : Option (List ℕ)) (status : ℕ) : Type 0 where
  pub fault : Fault
  pub refusal : MayFail planned fault
  pub is_status : status ≡ 111
  pub output : AppendsPrefix start final o.output
  pub lines : SaysLines explained (fault_line fault) told said

-- standard output held nothing back before the run, and no call of its writer or of that of standard error
-- failed
abbrev pub IsTaken : {O E : Type 0} → (old new : Writer O) → (errors : Writer E) → Type 0
IsTaken old new errors =
    (held_by old ≡ []) × (WriterFailed new → ⊥) × (WriterFailed errors → ⊥)

-- the words request no create
abbrev pub AsksNoCreate : Result Asked Refused → Type 0
AsksNoCreate (Ok (asked.Create name base inputs temporary options wide)) = ⊥
AsksNoCreate planned = ⊤

-- a run of such words, whose output and whose lines were taken, came to what the oracle says, or to a
-- refusal
abbrev pub IsForetold : {F I J M N R Y : Type 0} → Files F I J M N R Y → Given (Result Asked Refused) J
    → (old new : State Y) → Left F M I J → (taken : Type 0) → (status : ℕ) → Type 0
IsForetold files given old new left taken status =
    (disk : Disk) → (input : List ℕ) → taken → AsksNoCreate given.asked
    → IfOk given.asked
    (λ command. Honest files disk input command given.input old.opened new.opened left)
    → ComesTrue (foretell given.asked disk input).outcome given.explained old.output new.output
    old.errors new.errors status
    ⊎ IsRefused given.asked (foretell given.asked disk input).outcome given.explained old.output
    new.output old.errors new.errors status
