use Rattle.std.proofs.Common.{rules}
use Rattle.cdb_show.proofs.message.write_fault.Goals as goal

pub returns-in-Missing-clause-writes : goal.returns-in-Missing-clause-writes
returns-in-Missing-clause-writes g c = search rules
