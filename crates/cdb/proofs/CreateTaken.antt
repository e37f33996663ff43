-- What may be refused of a create, an output too; and an output that was taken was not.
use Rattle.cdb.proofs.Words.{Err, Fault, OutputSays, Result, subst, ◌≡◌}
use Rattle.cdb_show.specs.declared.fault.Fault.TheVariants.{Output}
use Rattle.cdb.specs.ForetoldCreate.{IsCreateRefusal}

-- of a create; or an output failed
abbrev pub MayGiveUpCreate : Fault → Type 0
MayGiveUpCreate Output = Unit {0}
MayGiveUpCreate fault = IsCreateRefusal fault

pub taken_create : {O : Type 0} (fault : Fault) (result : Result Unit Fault) → (O → ⊥) → OutputSays O result → result ≡ Err fault → MayGiveUpCreate fault → IsCreateRefusal fault
taken_create Output result works says is h = absurd (works (subst (OutputSays _) is says))
taken_create fault result works says is h = h
