use Rattle.cdb_make.proofs.Words.{arith, common_steps}
use Rattle.cdb_make.proofs.tags.tag_each.Goals as goal

pub loop-byte-preserved : goal.loop-byte-preserved
loop-byte-preserved c = grind (arith, common_steps)
