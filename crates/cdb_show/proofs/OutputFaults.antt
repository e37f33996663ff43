-- A fault that says that an output has failed.
use Rattle.cdb_show.proofs.Words.{Err, Fault, Result}
use Rattle.cdb_show.specs.Views.Output.{OutputSays}
use Rattle.cdb_show.specs.declared.fault.Fault.TheVariants.{Output}

-- it says so whatever has failed
pub says_more : {O P : Type 0} (result : Result Unit Fault) → (O → P) → OutputSays O result → OutputSays P result
says_more (Err Output) more says = more says
says_more result more says = tt
