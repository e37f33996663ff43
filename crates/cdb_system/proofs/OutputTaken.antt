-- What may be refused, standard output too; and an output that was taken was not.
use Rattle.cdb_system.proofs.Words.{Asked, Bool, Err, Fault, Result, false, subst, true, ◌≡◌}
use Rattle.cdb_command.specs.Asked as asked
use Rattle.cdb_show.specs.Views.Output.{OutputSays}
use Rattle.cdb_show.specs.declared.fault.Fault.TheVariants.{Output}
use Rattle.cdb_system.specs.Answered.{IsRefusal, Reading}

-- true if a command writes on standard output
abbrev pub writes_output : Asked → Bool
writes_output (asked.Check name wide) = false
writes_output command = true

-- a refusal; or standard output failed, if it is written
abbrev pub MayGiveUp : (writes : Bool) → Reading → Fault → Type 0
MayGiveUp writes reads Output = writes ≡ true
MayGiveUp writes reads fault = IsRefusal reads fault

-- an output that did not fail was not refused
pub taken : {O : Type 0} (writes : Bool) (reads : Reading) (fault : Fault) (result : Result Unit Fault) → (O → ⊥) → OutputSays O result → result ≡ Err fault → MayGiveUp writes reads fault → IsRefusal reads fault
taken writes reads Output result works says is h = absurd (works (subst (OutputSays _) is says))
taken writes reads fault result works says is h = h
