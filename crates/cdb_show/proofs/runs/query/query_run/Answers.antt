use Rattle.cdb_show.proofs.QueryEnds.{query_flushed}
use Rattle.cdb_show.proofs.runs.query.query_run.Goals as goal

pub returns-clause-queries : goal.returns-clause-queries
returns-clause-queries g c = query_flushed _ _ _ _ _ _ _ _ _ _ c.query_unflushed-store.ensures.queries c.flushed-answer.ensures.flushes
