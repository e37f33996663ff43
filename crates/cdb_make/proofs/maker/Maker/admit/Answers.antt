use Rattle.cdb_make.proofs.Words.{arith, common_steps}
use Rattle.cdb_make.proofs.maker.Maker.admit.Goals as goal

pub compact_and_add-requires-clause-some : goal.compact_and_add-requires-clause-some
compact_and_add-requires-clause-some g c = grind (arith, common_steps)

pub add_then_take-requires-clause-some : goal.add_then_take-requires-clause-some
add_then_take-requires-clause-some g c = grind (arith, common_steps)
