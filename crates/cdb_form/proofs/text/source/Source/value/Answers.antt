use Rattle.cdb_form.proofs.Words.{arith, err_from_is_err_and, rules, ◌≢◌}
use Rattle.cdb_form.proofs.MapTexts.MapReads.{leaves_past, other_than, value_some}
use Rattle.cdb_form.proofs.text.source.Source.value.Goals as goal

pub returns-in_err-stop-clause-leaves : goal.returns-in_err-stop-clause-leaves
returns-in_err-stop-clause-leaves g c =
    let p = err_from_is_err_and c.from_residual-in_err-stop.result c.from_residual-in_err-stop.ensures.1 in
    let run = rw c.in-Some.is at c.in_ok-first.ensures.run in
    let other : c.in-Some.first ≢ 10 = omega arith in
    rw (p.1, p.2) (leaves_past _ _ _ _ _ run.0 _ _ run.1 (other_than _ 10 other) c.in_err-stop.ensures.leaves)

pub returns-clause-reads : goal.returns-clause-reads
returns-clause-reads g c =
    let run = rw c.in-Some.is at c.in_ok-first.ensures.run in
    let kept = c.in_ok-stop.ensures.run in
    let other : c.in-Some.first ≢ 10 = omega arith in
    rw c.is_some.ensures (value_some _ _ _ _ run.0 kept.0 _ _ _ run.1 other kept.2 kept.1)

pub returns-clause-are : goal.returns-clause-are
returns-clause-are g c = search rules
