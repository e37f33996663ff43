use Rattle.cdb_form.proofs.Words.{arith, common_steps, rules}
use Rattle.cdb_form.proofs.reading.some_bytes.Goals as goal

pub returns-in-Ok-clause-spends : goal.returns-in-Ok-clause-spends
returns-in-Ok-clause-spends g c = search rules

pub returns-then-ne-clause-spends : goal.returns-then-ne-clause-spends
returns-then-ne-clause-spends g c = search rules

pub loop-preserved : goal.loop-preserved
loop-preserved g c = search rules

pub returns-in-Ok-clause-why : goal.returns-in-Ok-clause-why
returns-in-Ok-clause-why g c = omega arith

pub returns-then-ne-clause-why : goal.returns-then-ne-clause-why
returns-then-ne-clause-why g c = grind (arith, common_steps)
