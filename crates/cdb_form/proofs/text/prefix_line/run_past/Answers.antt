use Rattle.cdb_form.proofs.Words.{arith, is_of, prefix_len_is, sym}
use Rattle.cdb_form.proofs.text.prefix_line.run_past.Goals as goal

pub returns-else-has-clause-is : goal.returns-else-has-clause-is
returns-else-has-clause-is c =
    let so = c.loop-place.invariant in
    sym (prefix_len_is (is_of c.args.kind) c.args.bytes.now c.loop-place.place 0 so.within so.each (λ _. grind arith))

pub returns-after-loop-place-clause-is : goal.returns-after-loop-place-clause-is
returns-after-loop-place-clause-is c =
    let so = c.loop-place.invariant in
    sym (prefix_len_is (is_of c.args.kind) c.args.bytes.now c.loop-place.place 0 so.within so.each (λ l. absurd (omega (arith, l, c.loop-place-test.false))))

pub returns-else-has-clause-within : goal.returns-else-has-clause-within
returns-else-has-clause-within c = omega arith
