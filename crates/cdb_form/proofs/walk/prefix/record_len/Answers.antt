use Rattle.cdb_form.proofs.Words.{arith, common_steps}
use Rattle.cdb_form.proofs.walk.prefix.record_len.Goals as goal

pub returns : goal.returns
returns g c = grind (arith, common_steps)

pub returns-then-held-header : goal.returns-then-held-header
returns-then-held-header g c = grind (arith, common_steps)
