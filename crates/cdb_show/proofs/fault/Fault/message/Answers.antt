use Rattle.std.proofs.Common.{rules}
use Rattle.cdb_show.proofs.fault.Fault.message.Goals as goal

pub returns-in-Output : goal.returns-in-Output
returns-in-Output c = search rules
