use Rattle.cdb_tool.proofs.Words.{ap, arith, err_from_is_err_and, follows_then, left_of, reads_more, reads_nothing, refl, rules, ◌∙◌}
use Rattle.cdb_tool.proofs.BaseRecords.{added_start, none_stopped, added_next, added_all, added_not}
use Rattle.cdb_tool.proofs.MakerSteps.{step_failed}
use Rattle.cdb_tool.proofs.runs.make_base.add_records.Goals as goal

pub loop-room-init : goal.loop-room-init
loop-room-init g c =
    let e = c.walk-records.ensures in
    record {
      same = refl;
      reads = reads_nothing {s = g.B.Store} _ _ (ap (λ r. r.store) e.reader);
      added = rw e.reader (added_start {s = g.S.Store} {l = g.L.Width} _ _ _ c.args.maker.now c.append.new.self _ c.in_ok-append.ensures.ok e.walks);
      follows = c.append.ensures.follows;
      fine = c.in_ok-append.ensures.ok.failures;
    }

pub returns-in_err-append-clause-fails : goal.returns-in_err-append-clause-fails
returns-in_err-append-clause-fails g c = λ none.
    let p = err_from_is_err_and c.from_residual-in_err-append.result c.from_residual-in_err-append.ensures.1 in
    rw (p.1, p.2) (λ b i. none_stopped {s = g.S.Store} {l = g.L.Width} c.args.maker.now c.append.new.self _ c.in_err-append.ensures.fails none b)

pub loop-room-preserved : goal.loop-room-preserved
loop-room-preserved g c =
    let inv = c.loop-room.invariant in
    let step = c.add_next.ensures in
    record {
      same = step.same_reader ∙ inv.same;
      reads = reads_more inv.reads step.reads;
      added = added_next {s = g.S.Store} {l = g.L.Width} _ _ _ _ (λ b. left_of g.L.Width.WORD b c.add_next.new.records) _ _ c.add_next.new.maker _ inv.added (λ b i. step.reads.images b i) c.in_ok-add_next.ensures.ok;
      follows = follows_then _ _ _ inv.follows step.step.follows;
      fine = c.in_ok-add_next.ensures.step.fine ∙ inv.fine;
    }

pub returns-in_err-add_next-clause-fails : goal.returns-in_err-add_next-clause-fails
returns-in_err-add_next-clause-fails g c = λ none.
    let p = err_from_is_err_and c.from_residual-in_err-add_next.result c.from_residual-in_err-add_next.ensures.1 in
    let inv = c.loop-room.invariant in
    rw (p.1, p.2) (λ b i. added_not {s = g.S.Store} {l = g.L.Width} _ (g.B.Store.image c.add_next.new.records.reader.now.store) (λ b. left_of g.L.Width.WORD b c.loop-room.records) c.args.maker.now c.loop-room.maker c.add_next.new.maker _ inv.added (λ b i. c.add_next.ensures.reads.images b i) c.in_err-add_next.ensures.fails inv.follows.limit none b (search rules))

pub returns-clause-ok : goal.returns-clause-ok
returns-clause-ok g c = λ none.
    let inv = c.loop-room.invariant in
    let step = c.in_ok-add_next.ensures.ok in
    let all = added_all {s = g.S.Store} {l = g.L.Width} _ (g.B.Store.image c.add_next.new.records.reader.now.store) (λ b. left_of g.L.Width.WORD b c.add_next.new.records) _ c.add_next.new.maker
    (added_next {s = g.S.Store} {l = g.L.Width} _ _ _ _ (λ b. left_of g.L.Width.WORD b c.add_next.new.records) _ _ c.add_next.new.maker _ inv.added (λ b i. c.add_next.ensures.reads.images b i) step) (step.ended (search rules)) none in
    search (all, rules)

pub returns-in_err-add_next-clause-reads : goal.returns-in_err-add_next-clause-reads
returns-in_err-add_next-clause-reads g c =
    let reads = reads_more c.loop-room.invariant.reads c.add_next.ensures.reads in
    search (reads, rules)

pub returns-clause-reads : goal.returns-clause-reads
returns-clause-reads g c =
    let reads = reads_more c.loop-room.invariant.reads c.add_next.ensures.reads in
    search (reads, rules)

pub returns-in_err-add_next-clause-step : goal.returns-in_err-add_next-clause-step
returns-in_err-add_next-clause-step g c =
    let p = err_from_is_err_and c.from_residual-in_err-add_next.result c.from_residual-in_err-add_next.ensures.1 in
    let inv = c.loop-room.invariant in
    rw (p.1, p.2) (step_failed c.in_err-add_next.field-0.0 inv.follows inv.fine (λ is. search (rules, arith, is, inv.reads.failures)) (λ is. is) c.in_err-add_next.ensures.step)

pub returns-clause-step : goal.returns-clause-step
returns-clause-step g c =
    let inv = c.loop-room.invariant in
    let step = c.in_ok-add_next.ensures.step in
    record { follows = follows_then _ _ _ inv.follows step.follows; failed = tt; memory = tt; fine = step.fine ∙ inv.fine; base = tt; output = tt }
