use Rattle.cdb_form.proofs.Words.{arith}
use Rattle.cdb_form.proofs.walk.source.record_value.Goals as goal

pub returns-in-Both-clause-are : goal.returns-in-Both-clause-are
returns-in-Both-clause-are g c = omega arith
