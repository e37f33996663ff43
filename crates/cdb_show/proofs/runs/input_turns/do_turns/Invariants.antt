use Rattle.std.proofs.Common.{◌-◌, length}
use Rattle.cdb_show.proofs.Words.{shared_feed}
use Rattle.cdb_show.specs.Runs.InputTask.{progress}
use Rattle.cdb_show.proofs.InputTurns.{TurnsDone}
use Rattle.cdb_show.proofs.runs.input_turns.do_turns.Given as goal

-- the inputs so far were done
abbrev pub invariant-loop-i : goal.invariant-loop-i
invariant-loop-i g l =
    TurnsDone (g.P.InputTask.work l.task) g.J.Feeds.feed (shared_feed g.I.Feeds.feed) l.fn.readers l.fn.shared (progress (g.W.Sink.contents l.fn.w) l.fn.state) l.readers l.shared l.i (progress (g.W.Sink.contents l.w) l.state)

abbrev pub decreases-loop-i : goal.decreases-loop-i
decreases-loop-i g l = length l.initial.readers - l.i
