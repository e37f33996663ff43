use Rattle.cdb_form.proofs.Words.{arith, common_steps}
use Rattle.cdb_form.proofs.text.amend_reader.AmendReader.next.Goals as goal

pub returns-in-Some-Remove-clause-gives : goal.returns-in-Some-Remove-clause-gives
returns-in-Some-Remove-clause-gives g c = grind (arith, common_steps)

pub returns-in-Some-Put-clause-gives : goal.returns-in-Some-Put-clause-gives
returns-in-Some-Put-clause-gives g c = grind (arith, common_steps)
