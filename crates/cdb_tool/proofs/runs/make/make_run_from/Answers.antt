use Rattle.cdb_tool.proofs.FedEnds.{read_flushed}
use Rattle.cdb_tool.proofs.runs.make.make_run_from.Goals as goal

pub returns-clause-runs : goal.returns-clause-runs
returns-clause-runs g c = read_flushed g.B.Store _ _ g.J.Feeds.feed g.I.Feeds.feed _ _ _ c.args.inputs c.make_unflushed-made.result.inputs _ _ _ _ c.make_unflushed-made.result.answer _ c.make_unflushed-made.ensures.runs c.flushed-answer.ensures.flushes
