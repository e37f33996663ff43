use Rattle.cdb_read.proofs.Words.{arith, common_steps}
use Rattle.cdb_read.proofs.fault.ReadFaultDisplay.fmt.Goals as goal

pub returns-in-Slot-clause-writes : goal.returns-in-Slot-clause-writes
returns-in-Slot-clause-writes g c = grind (arith, common_steps)

pub returns-in-Record-clause-writes : goal.returns-in-Record-clause-writes
returns-in-Record-clause-writes g c = grind (arith, common_steps)
