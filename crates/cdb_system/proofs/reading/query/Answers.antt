use Rattle.std.proofs.Common.{rules}
use Rattle.cdb_system.proofs.reading.query.Goals as goal

pub returns-in-Ok-clause-performs : goal.returns-in-Ok-clause-performs
returns-in-Ok-clause-performs g c = search rules
