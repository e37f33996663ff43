use Rattle.cdb_show.proofs.DifferenceRuns.{tells_flushed}
use Rattle.cdb_show.proofs.runs.difference.difference_run.Goals as goal

pub returns-clause-tells : goal.returns-clause-tells
returns-clause-tells g c = tells_flushed _ _ _ _ _ _ _ _ _ _ c.flushed-answer.ensures.flushes.kept _ _ c.difference_unflushed-old.ensures.tells c.flushed-answer.ensures.flushes
