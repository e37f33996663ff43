use Rattle.std.proofs.Common.{arith}
use Rattle.cdb_form.proofs.head.first_at.Goals as goal

pub position-requires-clause-callable : goal.position-requires-clause-callable
position-requires-clause-callable c = omega arith
