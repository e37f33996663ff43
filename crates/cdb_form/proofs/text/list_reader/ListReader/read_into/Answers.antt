use Rattle.cdb_form.proofs.Words.{arith, common_steps, refl}
use Rattle.cdb_form.proofs.NativeTexts.KeyTexts.{list_fails}
use Rattle.cdb_form.proofs.text.list_reader.ListReader.read_into.Goals as goal

pub returns-in-Err-clause-fails : goal.returns-in-Err-clause-fails
returns-in-Err-clause-fails g c =
    let e = c.in-Err.ensures in
    list_fails g.L.Width.GREATEST _ _ _ c.in-Err.fault refl (rw c.GREATEST.ensures at e.fails) e.leaves

pub returns-in-Ok-true-clause-gives : goal.returns-in-Ok-true-clause-gives
returns-in-Ok-true-clause-gives g c = grind (arith, common_steps)
