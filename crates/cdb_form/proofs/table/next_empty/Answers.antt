use Rattle.cdb_form.proofs.Words.{arith, length, length-set, slots_in, ◌<◌}
use Rattle.cdb_form.proofs.Slots.RunLemmas.{runs_passed, run_noted}
use Rattle.cdb_form.proofs.table.next_empty.Goals as goal

pub overflow_add-joined : goal.overflow_add-joined
overflow_add-joined g c =
    let p = runs_passed (slots_in g.L.Width.WORD c.args.bytes.now) c.loop-run.at c.loop-run.run c.run_at.result c.loop-run.invariant.within c.loop-run.invariant.run c.run_at.ensures.run in
    omega (arith, p.within)

pub overflow_add-at-in-loop-run : goal.overflow_add-at-in-loop-run
overflow_add-at-in-loop-run g c =
    let p = runs_passed (slots_in g.L.Width.WORD c.args.bytes.now) c.loop-run.at c.loop-run.run c.run_at.result c.loop-run.invariant.within c.loop-run.invariant.run c.run_at.ensures.run in
    omega (arith, p.within)

pub bounds-runs-at : goal.bounds-runs-at
bounds-runs-at g c =
    let p = runs_passed (slots_in g.L.Width.WORD c.args.bytes.now) c.loop-run.at c.loop-run.run c.run_at.result c.loop-run.invariant.within c.loop-run.invariant.run c.run_at.ensures.run in
    omega (arith, p.within, c.loop-run-test.true, c.loop-run.invariant.long)

pub run_at-run-requires-in-loop-run-clause-runs : goal.run_at-run-requires-in-loop-run-clause-runs
run_at-run-requires-in-loop-run-clause-runs g c =
    let p = runs_passed (slots_in g.L.Width.WORD c.args.bytes.now) c.loop-run.at c.loop-run.run c.run_at.result c.loop-run.invariant.within c.loop-run.invariant.run c.run_at.ensures.run in
    run_noted (slots_in g.L.Width.WORD c.args.bytes.now) c.loop-run.runs c.loop-run.at _ c.noted.result (omega (arith, p.within, c.loop-run-test.true, c.loop-run.invariant.long)) (omega (arith, c.noted.ensures)) p.joined c.loop-run.invariant.runs

pub loop-run-preserved : goal.loop-run-preserved
loop-run-preserved g c =
    let p = runs_passed (slots_in g.L.Width.WORD c.args.bytes.now) c.loop-run.at c.loop-run.run c.run_at.result c.loop-run.invariant.within c.loop-run.invariant.run c.run_at.ensures.run in
    let low : c.loop-run.at < length c.loop-run.runs = omega (arith, p.within, c.loop-run-test.true, c.loop-run.invariant.long) in
    record {
      within = p.within;
      long = simp length-set c.loop-run.invariant.long;
      runs = run_noted (slots_in g.L.Width.WORD c.args.bytes.now) c.loop-run.runs c.loop-run.at _ c.noted.result low (omega (arith, c.noted.ensures)) p.joined c.loop-run.invariant.runs;
      run = c.run_at-run-in-loop-run.ensures.run;
      none = c.run_at-run-in-loop-run.ensures.none;
      passed = omega (arith, p.passed, c.loop-run.invariant.passed);
    }

pub loop-run-smaller : goal.loop-run-smaller
loop-run-smaller g c =
    let p = runs_passed (slots_in g.L.Width.WORD c.args.bytes.now) c.loop-run.at c.loop-run.run c.run_at.result c.loop-run.invariant.within c.loop-run.invariant.run c.run_at.ensures.run in
    omega (arith, p.within, c.loop-run-test.true)
