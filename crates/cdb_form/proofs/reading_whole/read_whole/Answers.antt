use Rattle.cdb_form.proofs.Words.{arith, common_steps, rules}
use Rattle.cdb_form.proofs.reading_whole.read_whole.Goals as goal

pub returns-in-Ok-clause-given : goal.returns-in-Ok-clause-given
returns-in-Ok-clause-given g c = search rules

pub returns-in-Err-NoMemory-clause-loses : goal.returns-in-Err-NoMemory-clause-loses
returns-in-Err-NoMemory-clause-loses g c = search rules

pub returns-in-Err-Failed-clause-loses : goal.returns-in-Err-Failed-clause-loses
returns-in-Err-Failed-clause-loses g c = grind (arith, common_steps)

pub returns-in-Err-Ended-clause-loses : goal.returns-in-Err-Ended-clause-loses
returns-in-Err-Ended-clause-loses g c = grind (arith, common_steps)
