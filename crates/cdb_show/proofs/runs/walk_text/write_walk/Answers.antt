use Rattle.cdb_show.proofs.WholeTexts.{written_flushed}
use Rattle.cdb_show.proofs.runs.walk_text.write_walk.Goals as goal

pub returns-clause-writes : goal.returns-clause-writes
returns-clause-writes g c = written_flushed _ _ _ _ _ _ _ _ _ c.write_unflushed-written.ensures.writes c.flushed.ensures.flushes
