use Rattle.std.proofs.Common.{rules}
use Rattle.cdb_read.proofs.reader.Reader.find.Goals as goal

pub returns-clause-finds : goal.returns-clause-finds
returns-clause-finds g c = search rules
