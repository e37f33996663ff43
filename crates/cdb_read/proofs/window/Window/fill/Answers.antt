use Rattle.cdb_read.proofs.Words.{arith, common_steps, rules}
use Rattle.cdb_read.proofs.window.Window.fill.Goals as goal

pub returns-in_err-read_part-clause-shows : goal.returns-in_err-read_part-clause-shows
returns-in_err-read_part-clause-shows g c = search rules

pub returns-clause-shows : goal.returns-clause-shows
returns-clause-shows g c = grind (arith, common_steps)
