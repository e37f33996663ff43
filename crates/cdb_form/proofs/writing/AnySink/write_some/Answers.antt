use Rattle.cdb_form.proofs.Words.{arith, rules}
use Rattle.cdb_form.proofs.writing.AnySink.write_some.Goals as goal

pub returns-then-ne-clause-count : goal.returns-then-ne-clause-count
returns-then-ne-clause-count g c = omega arith

pub returns-then-n-eq0-clause-err : goal.returns-then-n-eq0-clause-err
returns-then-n-eq0-clause-err g c = search rules

pub loop-preserved : goal.loop-preserved
loop-preserved g c = search rules
