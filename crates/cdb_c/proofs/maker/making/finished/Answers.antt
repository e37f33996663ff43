use Rattle.std.proofs.Common.{Some, subst, sym}
use Rattle.cdb_c.specs.Calls.{IsHandleFinished}
use Rattle.cdb_c.specs.declared.maker.database.Database.{Database}
use Rattle.cdb_c.specs.declared.maker.database.Database.TheVariants.{Made}
use Rattle.cdb_c.proofs.maker.making.finished.Goals as goal

-- src/making.rt:117:1
pub returns-in-Ok-clause-ok : goal.returns-in-Ok-clause-ok
returns-in-Ok-clause-ok c =
    subst (λ (d : Database). IsHandleFinished (Some d) (Some (Made (record { store = c.in-Ok.store })))) (sym c.in-Open.is)
    (record { file = λ rs holds. c.in-Ok.ensures.file rs holds; synced = c.in-Ok.ensures.settled.1 })
