use Rattle.cdb_tool.proofs.Words.{rules}
use Rattle.cdb_tool.proofs.runs.make_input.tell_put.Goals as goal

pub returns-clause-goes : goal.returns-clause-goes
returns-clause-goes g c = search rules
