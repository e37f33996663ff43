use Rattle.std.proofs.lemmas.Grind.{common_steps}
use Rattle.std.proofs.Common.{arith}
use Rattle.cdb_names.proofs.replace.is_locked.Goals as goal

pub returns-in-Taken-clause-free : goal.returns-in-Taken-clause-free
returns-in-Taken-clause-free g c = grind (arith, common_steps)

pub returns-in-Unsupported-clause-free : goal.returns-in-Unsupported-clause-free
returns-in-Unsupported-clause-free g c = grind (arith, common_steps)
