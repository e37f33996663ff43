use Rattle.cdb_show.proofs.Words.{err_from_is_err_and, found_more, found_still, ◌∙◌}
use Rattle.cdb_show.proofs.Queries.{written_more, finding_fails, value_fails}
use Rattle.cdb_show.proofs.runs.query.query_from.Goals as goal

pub loop-value-preserved : goal.loop-value-preserved
loop-value-preserved g c =
    let inv = c.loop-value.invariant in
    let one = rw c.in-Some.is at c.in_ok-value.ensures.gives in
    let written = c.write_shown.ensures in
    let found = found_more {s = g.S.Store} {l = g.L.Width} _ _ _ c.loop-value.finder c.next.new.self _ c.in-Some.value inv.written.found c.next.ensures.reads one in
    record {
      same = written.same_reader ∙ c.next.ensures.same_reader ∙ inv.same;
      key = written.key ∙ c.next.ensures.key ∙ inv.key;
      written = written_more {s = g.S.Store} {l = g.L.Width} _ _ _ _ c.next.new.self c.write_shown.new.finder _ _ _ inv.written.spans c.in-Some.value
          (found_still {s = g.S.Store} {l = g.L.Width} _ _ _ c.next.new.self c.write_shown.new.finder _ found written.reads written.key written.stays)
          (λ b is. inv.written.written b (c.next.ensures.reads.images b (written.reads.images b is)))
          (λ b is. (c.in_ok-write_shown.ensures.writes b is).ok);
    }

pub returns-in_err-value-clause-fails : goal.returns-in_err-value-clause-fails
returns-in_err-value-clause-fails g c =
    let p = err_from_is_err_and c.from_residual.result c.from_residual.ensures.1 in
    let inv = c.loop-value.invariant in
    rw (p.1, p.2)
    (finding_fails {s = g.S.Store} {l = g.L.Width} _ _ c.args.finder.now c.loop-value.finder c.next.new.self _ _ _ c.in_err-value.field-0.0 inv.written c.next.ensures.reads c.next.ensures.key c.in_err-value.ensures.fails)

pub returns-in_err-write_shown-clause-fails : goal.returns-in_err-write_shown-clause-fails
returns-in_err-write_shown-clause-fails g c =
    let p = err_from_is_err_and c.from_residual-in_err-write_shown.result c.from_residual-in_err-write_shown.ensures.1 in
    let inv = c.loop-value.invariant in
    let one = rw c.in-Some.is at c.in_ok-value.ensures.gives in
    let written = c.write_shown.ensures in
    let next = found_more {s = g.S.Store} {l = g.L.Width} _ _ _ c.loop-value.finder c.next.new.self _ c.in-Some.value inv.written.found c.next.ensures.reads one in
    let found = found_still {s = g.S.Store} {l = g.L.Width} _ _ _ c.next.new.self c.write_shown.new.finder _ next written.reads written.key written.stays in
    rw (p.1, p.2)
    (value_fails {s = g.S.Store} {l = g.L.Width} _ _ c.args.finder.now c.next.new.self c.write_shown.new.finder _ _ _ _ c.in-Some.value c.in_err-write_shown.field-0.0 found next.reads.failures c.in_err-write_shown.ensures.fails
    (λ b is. inv.written.written b (c.next.ensures.reads.images b (written.reads.images b is))) (λ b is. (c.in_err-write_shown.ensures.writes b is).err))
