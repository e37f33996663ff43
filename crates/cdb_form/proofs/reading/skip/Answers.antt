use Rattle.cdb_form.proofs.Sources.AskingLemmas.{used_more, why_ended, why_on}
use Rattle.cdb_form.proofs.Words.{arith, common_steps, err_from_is_err_and, length, length-append, length-drop, length-take-le, rules, take, ◌++◌, ◌∙◌, ◌≡◌}
use Rattle.cdb_form.proofs.Fed.FeedLemmas.{consumes_then}
use Rattle.cdb_form.proofs.reading.skip.Goals as goal

pub loop-done-preserved : goal.loop-done-preserved
loop-done-preserved g c =
    let n = c.in_ok-n.n in
    let into = c.some_bytes.new.into in
    let e = c.in_ok-n.ensures in
    let passed = c.loop-done.invariant.read in
    let room : length into ≡ c.min-most.result = c.some_bytes.auto.into ∙ length-take-le c.min-most.result c.loop-done.piece (omega arith) in
    record {
      read = record {
        bytes = passed.bytes ++ take n into;
        read = consumes_then _ _ _ passed.bytes (take n into) passed.read e.bytes;
        long = omega (arith, length-append passed.bytes (take n into), passed.long, length-take-le n into e.bound);
      };
      within = omega (arith, room, e.bound);
      used = used_more _ _ _ n _ _ _ (take n into) c.loop-done.invariant.used e.bytes e.one (omega arith);
      piece = simp (length-append, length-drop) (omega (arith, room, c.loop-done.invariant.piece));
    }

pub returns-in_err-n-clause-why : goal.returns-in_err-n-clause-why
returns-in_err-n-clause-why g c =
    let p = err_from_is_err_and c.from_residual.result c.from_residual.ensures.1 in
    rw (p.1, p.2) (why_on _ _ _ c.loop-done.done _ _ _ c.in_err-n.field-0.0 c.loop-done.invariant.used c.in_err-n.ensures.kept (omega arith) c.in_err-n.ensures.why)

pub returns-then-n-eq0-clause-why : goal.returns-then-n-eq0-clause-why
returns-then-n-eq0-clause-why g c = why_ended _ _ _ _

pub returns-in_err-n-clause-loses : goal.returns-in_err-n-clause-loses
returns-in_err-n-clause-loses g c = grind (arith, common_steps)

pub returns-then-n-eq0-clause-memory : goal.returns-then-n-eq0-clause-memory
returns-then-n-eq0-clause-memory g c = search rules
