use Rattle.cdb_show.proofs.Words.{shared_feed}
use Rattle.cdb_show.proofs.InputTurns.{turns_all, turns_more, turns_none, turns_stop}
use Rattle.cdb_show.proofs.runs.input_turns.do_turns.Goals as goal

pub loop-i-init : goal.loop-i-init
loop-i-init g c = turns_none (g.P.InputTask.work c.args.task.now) g.J.Feeds.feed (shared_feed g.I.Feeds.feed) c.args.readers.now c.args.shared _

pub loop-i-preserved : goal.loop-i-preserved
loop-i-preserved g c =
    turns_more (g.P.InputTask.work c.args.task.now) g.J.Feeds.feed (shared_feed g.I.Feeds.feed) c.args.readers.now c.args.shared _
    c.loop-i.readers c.index-readers-i.result c.do_turn-left.new.input c.loop-i.shared c.do_turn-left.result.0 c.loop-i.i _ _ c.loop-i.invariant c.loop-i-test.true c.index-readers-i.is (rw c.in_default.is at c.do_turn-left.ensures.ok)

pub returns-in-Err-clause-fails : goal.returns-in-Err-clause-fails
returns-in-Err-clause-fails g c =
    turns_stop (g.P.InputTask.work c.args.task.now) g.J.Feeds.feed (shared_feed g.I.Feeds.feed) c.args.readers.now c.args.shared _
    c.loop-i.readers c.index-readers-i.result c.do_turn-left.new.input c.loop-i.shared c.do_turn-left.result.0 c.loop-i.i _ _ c.loop-i.invariant c.loop-i-test.true c.index-readers-i.is c.in-Err.fault (rw c.in-Err.is at c.do_turn-left.ensures.fails)

pub returns-clause-ok : goal.returns-clause-ok
returns-clause-ok g c =
    turns_all (g.P.InputTask.work c.args.task.now) g.J.Feeds.feed (shared_feed g.I.Feeds.feed) c.args.readers.now c.args.shared _
    c.loop-i.readers c.loop-i.shared c.loop-i.i _ c.loop-i.invariant c.loop-i-test.false
