use Rattle.cdb_form.proofs.Words.{arith, common_steps}
use Rattle.cdb_form.proofs.writing.joined.Goals as goal

pub loop-piece-preserved : goal.loop-piece-preserved
loop-piece-preserved c = grind (arith, common_steps)
