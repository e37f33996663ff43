use Rattle.cdb_make.proofs.Words.{arith, sym, ◌∙◌, nat_tests}
use Rattle.cdb_make.proofs.Marking.{gone_all, gone_past}
use Rattle.cdb_make.proofs.mark.is_gone_of_all.Goals as goal

pub returns-then-n-marks : goal.returns-then-n-marks
returns-then-n-marks c = λ count few lt. c.is_gone_at.ensures ∙ sym (gone_all count c.args.marks.now c.args.n c.if-n-marks.true)

pub returns-else-n-marks : goal.returns-else-n-marks
returns-else-n-marks c = λ count few lt.
    let gone = gone_past count c.args.marks.now c.args.n (omega (arith, c.if-n-marks.false)) lt in
    grind (arith, nat_tests, gone, c.if-n-marks.false)
