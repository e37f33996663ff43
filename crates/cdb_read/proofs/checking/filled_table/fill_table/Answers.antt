use Rattle.cdb_read.proofs.Words.{arith, common_steps}
use Rattle.cdb_read.proofs.checking.filled_table.fill_table.Goals as goal

pub returns-clause-filled : goal.returns-clause-filled
returns-clause-filled g c = grind (arith, common_steps)

pub returns-clause-long : goal.returns-clause-long
returns-clause-long g c = grind (arith, common_steps)
