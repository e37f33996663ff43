use Rattle.cdb_form.proofs.Sources.AskingLemmas.{used_more, why_on}
use Rattle.cdb_form.proofs.Words.{AreBytes, Consumes, arith, common_steps, err_from_is_err_and, rules, subst, sym, take, ◌++◌, ◌+◌, ◌≡◌, ◌≤◌}
use Rattle.cdb_form.proofs.Bytes.ByteLemmas.{AreBytes-append}
use Rattle.cdb_form.proofs.Fed.FeedLemmas.{consumes_then}
use Rattle.cdb_form.proofs.reading.vector.Goals as goal

pub loop-done-preserved : goal.loop-done-preserved
loop-done-preserved g c =
    let e = c.in_ok-done.ensures in
    let inv = c.loop-done.invariant in
    let done = c.loop-done.done in
    let n = c.in_ok-done.field-0 in
    let so_far = take done c.loop-done.into.items in
    let piece = e.read.0 in
    let more : take (done + n) c.some_behind.new.into.items ≡ so_far ++ piece = e.read.2 in
    let within : done + n ≤ c.args.len = omega (arith, e.bound, c.min-most.ensures, inv.within, c.loop-done-test.true) in
    record {
      read = subst (Consumes _ _) (sym more) (consumes_then _ _ _ so_far piece inv.read e.read.1);
      are = subst AreBytes (sym more) (AreBytes-append so_far piece inv.are e.read.3);
      held = e.within;
      within = within;
      each = λ few. omega (arith, few, e.bound, c.min-most.ensures, e.fewer, inv.each few);
      fewer = omega (arith, e.fewer, inv.fewer);
      spent = omega (arith, e.bound, e.spends, inv.spent);
      used = used_more _ _ done n _ _ _ piece inv.used e.read.1 e.one (omega (arith, e.bound));
    }

pub returns-in_err-done-clause-why : goal.returns-in_err-done-clause-why
returns-in_err-done-clause-why g c =
    let p = err_from_is_err_and c.from_residual.result c.from_residual.ensures.1 in
    rw (p.1, p.2) (why_on _ _ _ c.loop-done.done _ _ _ c.in_err-done.field-0.0 c.loop-done.invariant.used c.in_err-done.ensures.kept (omega arith) c.in_err-done.ensures.why)

pub returns-in_err-done-clause-short : goal.returns-in_err-done-clause-short
returns-in_err-done-clause-short g c = search rules

pub returns-in_err-done-clause-spends_err : goal.returns-in_err-done-clause-spends_err
returns-in_err-done-clause-spends_err g c = search rules

pub returns-in_err-done-clause-each : goal.returns-in_err-done-clause-each
returns-in_err-done-clause-each g c = search rules

pub returns-in_err-done-clause-loses : goal.returns-in_err-done-clause-loses
returns-in_err-done-clause-loses g c = search rules

pub returns-in_err-done-clause-loses_fewer : goal.returns-in_err-done-clause-loses_fewer
returns-in_err-done-clause-loses_fewer g c = grind (arith, common_steps)
