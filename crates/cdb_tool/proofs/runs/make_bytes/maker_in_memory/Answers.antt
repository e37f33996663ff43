use Rattle.std.proofs.Common.{rules}
use Rattle.cdb_tool.proofs.runs.make_bytes.maker_in_memory.Goals as goal

pub returns-in-Err-clause-err : goal.returns-in-Err-clause-err
returns-in-Err-clause-err g c = search rules
