use Rattle.cdb_show.proofs.Words.{ap, arith, err_from_is_err_and, length, refl, rules, ◌+◌, ◌-◌, ◌∙◌, ◌≡◌, ◌≤◌}
use Rattle.cdb_read.proofs.FoundSoFar.{found_none, found_more, found_still}
use Rattle.cdb_show.proofs.Queries.{passed_none, passed_more, copying_fails, handed_back, nth_written, nth_prefix}
use Rattle.cdb_show.proofs.runs.query.write_nth.Goals as goal

pub loop-value-init : goal.loop-value-init
loop-value-init g c =
    let e = c.find-finder.ensures in
    record {
      same = refl;
      key = e.key;
      passed = passed_none {s = g.S.Store} {l = g.L.Width} _ _ c.args.reader.now.store c.find-finder.result _ _ (found_none {s = g.S.Store} {l = g.L.Width} _ _ c.args.reader.now.store c.find-finder.result (ap (λ r. r.store) e.reader) e.finds) c.requires;
    }

pub loop-value-preserved : goal.loop-value-preserved
loop-value-preserved g c =
    let inv = c.loop-value.invariant in
    let one = rw c.in-Some.is at c.in_ok-value.ensures.gives in
    let more = inv.passed.more in
    let less : c.loop-value.left ≡ c.loop-value.left - 1 + 1 = omega (arith, more) in
    let some : 1 ≤ c.loop-value.left - 1 = omega (arith, c.if-left-eq0.false, more) in
    record {
      same = c.next.ensures.same_reader ∙ inv.same;
      key = c.next.ensures.key ∙ inv.key;
      passed = passed_more {s = g.S.Store} {l = g.L.Width} _ _ _ c.loop-value.finder c.next.new.self _ c.loop-value.left (c.loop-value.left - 1) _ _ c.in-Some.value inv.passed c.next.ensures.reads one less some;
    }

pub returns-in_err-write_shown-clause-queries : goal.returns-in_err-write_shown-clause-queries
returns-in_err-write_shown-clause-queries g c =
    let p = err_from_is_err_and c.from_residual-in_err-write_shown.result c.from_residual-in_err-write_shown.ensures.1 in
    let inv = c.loop-value.invariant in
    let one = rw c.in-Some.is at c.in_ok-value.ensures.gives in
    let more = inv.passed.more in
    let counted = inv.passed.counted in
    let count : length inv.passed.spans + 1 ≡ c.args.number = omega (arith, c.if-left-eq0.true, more, counted) in
    let written = c.write_shown.ensures in
    let next = found_more {s = g.S.Store} {l = g.L.Width} _ _ _ c.loop-value.finder c.next.new.self _ c.in-Some.value inv.passed.found c.next.ensures.reads one in
    let found = found_still {s = g.S.Store} {l = g.L.Width} _ _ _ c.next.new.self c.write_shown.new.finder _ next written.reads written.key written.stays in
    rw (p.1, p.2)
    (handed_back c.write_shown.new.finder.reader.now.store _ (search rules)
    (copying_fails _ g.S.Store _ _ c.next.new.self.reader.now.store _ _ _ c.in_err-write_shown.field-0.0 next.reads written.reads c.args.reader.now.long c.in_err-write_shown.ensures.fails
    (λ b is. nth_prefix {s = g.S.Store} {l = g.L.Width} _ _ _ _ c.write_shown.new.finder _ _ _ _ inv.passed.spans c.in-Some.value b found count is inv.passed.kept (c.in_err-write_shown.ensures.writes b is).err)))

pub returns-then-left-eq0-clause-queries : goal.returns-then-left-eq0-clause-queries
returns-then-left-eq0-clause-queries g c =
    let inv = c.loop-value.invariant in
    let one = rw c.in-Some.is at c.in_ok-value.ensures.gives in
    let more = inv.passed.more in
    let counted = inv.passed.counted in
    let count : length inv.passed.spans + 1 ≡ c.args.number = omega (arith, c.if-left-eq0.true, more, counted) in
    let written = c.write_shown.ensures in
    let next = found_more {s = g.S.Store} {l = g.L.Width} _ _ _ c.loop-value.finder c.next.new.self _ c.in-Some.value inv.passed.found c.next.ensures.reads one in
    let found = found_still {s = g.S.Store} {l = g.L.Width} _ _ _ c.next.new.self c.write_shown.new.finder _ next written.reads written.key written.stays in
    handed_back c.write_shown.new.finder.reader.now.store _ (search rules)
    (nth_written {s = g.S.Store} {l = g.L.Width} _ _ _ _ c.write_shown.new.finder _ _ _ _ inv.passed.spans c.in-Some.value found count c.args.reader.now.long inv.passed.kept (λ b is. (c.in_ok-write_shown.ensures.writes b is).ok))
