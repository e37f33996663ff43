use Rattle.cdb_form.proofs.Words.{arith, common_steps}
use Rattle.cdb_form.proofs.text.source.Source.keep_at_hand.Goals as goal

pub returns-clause-moved : goal.returns-clause-moved
returns-clause-moved g c = grind (arith, common_steps)
