use Rattle.std.proofs.lemmas.Grind.{common_steps}
use Rattle.std.proofs.Common.{arith}
use Rattle.cdb_make.proofs.Words.{IsFile, subst, sym}
use Rattle.cdb_make.proofs.maker.Maker.finish.Goals as goal

pub returns-in-Ok-clause-file : goal.returns-in-Ok-clause-file
returns-in-Ok-clause-file g c = λ rs h. subst (λ (s : g.row.S.Denot). IsFile g.L.Width.WORD rs (g.S.Store.image s)) (sym c.into_store.ensures) (c.in-Ok.ensures.file rs h)

pub returns-in-Ok-clause-written : goal.returns-in-Ok-clause-written
returns-in-Ok-clause-written g c = grind (arith, common_steps)
