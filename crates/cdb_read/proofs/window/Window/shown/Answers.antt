use Rattle.std.proofs.Common.{rules}
use Rattle.cdb_read.proofs.window.Window.shown.Goals as goal

pub returns-clause-is : goal.returns-clause-is
returns-clause-is c = search rules
