use Rattle.cdb_form.proofs.Words.{Some, arith, common_steps, refl, ◌≡◌}
use Rattle.cdb_form.specs.declared.text.going.Going.TheVariants.{On}
use Rattle.cdb_form.proofs.NativeTexts.FormReads.{fails_as}
use Rattle.cdb_form.proofs.NativeTexts.LongValues.{next_gives}
use Rattle.cdb_form.proofs.text.form_reader.FormReader.read_up_to.Goals as goal

pub returns-in-Ok-Some-clause-gives : goal.returns-in-Ok-Some-clause-gives
returns-in-Ok-Some-clause-gives g c =
    let is = c.in-Ok-Some.is in
    let e = c.entry_up_to-answer.ensures in
    let some : c.in-Ok-Some.field-0 ≡ Some c.in-Ok-Some.field-0-0 = rw is at c.in-Ok-Some.field-0-is in
    let began : c.args.self.now.going ≡ On = grind (arith, common_steps) in
    rw (is, some)
    (next_gives g.L.Width.GREATEST g.R.Feeds.feed c.args.self.now _ _ c.in-Ok-Some.field-0-0 (rw c.GREATEST.ensures at (rw (is, some) at e.read)) began began (rw is at e.fewer) (rw is at e.spends))

pub returns-in-Err-clause-fails : goal.returns-in-Err-clause-fails
returns-in-Err-clause-fails g c =
    let e = c.in-Err.ensures in
    rw c.in-Err.is (fails_as c.args.removals g.L.Width.GREATEST _ _ _ c.in-Err.fault refl (rw c.GREATEST.ensures at e.fails) e.leaves)
