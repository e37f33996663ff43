use Rattle.std.proofs.Common.{rules}
use Rattle.cdb_store.proofs.buffered.lies_apart.Goals as goal

pub returns-then-n-start : goal.returns-then-n-start
returns-then-n-start c = search rules

pub returns-else-n-start : goal.returns-else-n-start
returns-else-n-start c = search rules
