use Rattle.cdb_make.proofs.Words.{arith, common_steps}
use Rattle.cdb_make.proofs.finish.gather.room_for.Goals as goal

pub loop-n-preserved : goal.loop-n-preserved
loop-n-preserved g c = grind (arith, common_steps)
