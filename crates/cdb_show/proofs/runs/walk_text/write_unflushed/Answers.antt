use Rattle.std.proofs.lemmas.Result.{err_from_is_err_and}
use Rattle.cdb_form.specs.Views.Prefix.{shown_by}
use Rattle.cdb_show.proofs.WholeTexts.{held_by, held_in, written_none, written_more, written_all, record_fails, end_fails, reader_fails}
use Rattle.cdb_show.specs.Runs.WalkText.{form_of}
use Rattle.cdb_show.proofs.runs.walk_text.write_unflushed.Goals as goal

pub loop-peeked-init : goal.loop-peeked-init
loop-peeked-init g c = written_none g.L.Width.WORD (form_of c.args.content c.args.style) g.R.Feeds.feed c.args.records.now (g.W.Sink.contents c.args.w.now) c.requires

-- a record that was shown
pub loop-peeked-preserved-in-Continue-1 : goal.loop-peeked-preserved-in-Continue-1
loop-peeked-preserved-in-Continue-1 g c =
    let f = c.in-Some.peeked in
    let one = c.take_peeked.ensures (shown_by f) c.in-Some.ensures in
    written_more _ _ _ _ c.loop-peeked.records c.take_peeked.new.self _ _ _ (shown_by f) c.loop-peeked.invariant one (c.in_ok-written.ensures.writes (shown_by f) (held_by c.args.content f.key.now f.value.now)).ok

pub returns-in_err-written-clause-writes : goal.returns-in_err-written-clause-writes
returns-in_err-written-clause-writes g c =
    let p = err_from_is_err_and c.from_residual.result c.from_residual.ensures.1 in
    let f = c.in-Some.peeked in
    let one = c.take_peeked.ensures (shown_by f) c.in-Some.ensures in
    rw (p.1, p.2) (record_fails _ _ _ _ c.loop-peeked.records c.take_peeked.new.self _ _ _ (shown_by f) c.loop-peeked.invariant one (c.in_err-written.ensures.writes (shown_by f) (held_by c.args.content f.key.now f.value.now)).err)

-- a record that was read
pub loop-peeked-preserved : goal.loop-peeked-preserved
loop-peeked-preserved g c =
    let one = rw c.if-branch.true at c.in_ok-read_item.ensures.gives in
    written_more _ _ _ _ c.loop-peeked.records c.read_item.new.records _ _ _ one.0 c.loop-peeked.invariant one.2
    (c.in_ok-write_item.ensures.writes one.0 (held_in c.args.content _ _ _ _ one.0 c.deref.ensures.value c.deref-then-branch.ensures.value one.1)).ok

pub returns-in_err-write_item-clause-writes : goal.returns-in_err-write_item-clause-writes
returns-in_err-write_item-clause-writes g c =
    let p = err_from_is_err_and c.from_residual-in_err-write_item.result c.from_residual-in_err-write_item.ensures.1 in
    let one = rw c.if-branch.true at c.in_ok-read_item.ensures.gives in
    rw (p.1, p.2) (record_fails _ _ _ _ c.loop-peeked.records c.read_item.new.records _ _ _ one.0 c.loop-peeked.invariant one.2
    (c.in_err-write_item.ensures.writes one.0 (held_in c.args.content _ _ _ _ one.0 c.deref.ensures.value c.deref-then-branch.ensures.value one.1)).err)

pub returns-in_err-read_item-clause-writes : goal.returns-in_err-read_item-clause-writes
returns-in_err-read_item-clause-writes g c =
    let p = err_from_is_err_and c.from_residual-in_err-read_item.result c.from_residual-in_err-read_item.ensures.1 in
    let fails = c.in_err-read_item.ensures.fails in
    rw (p.1, p.2) (reader_fails _ _ _ _ c.loop-peeked.records c.read_item.new.records _ _ _ c.loop-peeked.invariant fails)

-- the end
pub returns-in_err-write_last-clause-writes : goal.returns-in_err-write_last-clause-writes
returns-in_err-write_last-clause-writes g c =
    let p = err_from_is_err_and c.from_residual-in_err-write_last.result c.from_residual-in_err-write_last.ensures.1 in
    let end = rw c.if-branch.false at c.in_ok-read_item.ensures.gives in
    rw (p.1, p.2) (end_fails _ _ _ _ c.loop-peeked.records c.read_item.new.records _ _ _ c.loop-peeked.invariant end c.in_err-write_last.ensures.writes.err)

pub returns-else-branch-clause-writes : goal.returns-else-branch-clause-writes
returns-else-branch-clause-writes g c =
    let end = rw c.if-branch.false at c.in_ok-read_item.ensures.gives in
    written_all _ _ _ _ c.loop-peeked.records c.read_item.new.records _ _ _ c.loop-peeked.invariant end c.in_ok-write_last.ensures.writes.ok
