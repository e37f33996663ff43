use Rattle.cdb_store.proofs.Words.{arith, common_steps}
use Rattle.cdb_store.proofs.bytes.write_over.Goals as goal

pub returns-then-inside-gt0-clause-ok : goal.returns-then-inside-gt0-clause-ok
returns-then-inside-gt0-clause-ok c = grind (arith, common_steps)
