use Rattle.cdb_form.proofs.Words.{arith, common_steps}
use Rattle.cdb_form.proofs.reading.lengthen.Goals as goal

pub returns-in_ok-resize-clause-front : goal.returns-in_ok-resize-clause-front
returns-in_ok-resize-clause-front c = grind (arith, common_steps)

pub returns-in_err-resize-clause-front : goal.returns-in_err-resize-clause-front
returns-in_err-resize-clause-front c = grind (arith, common_steps)
