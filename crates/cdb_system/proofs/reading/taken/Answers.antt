use Rattle.cdb_system.proofs.Streams.{is_not_loaded, is_whole}
use Rattle.cdb_system.proofs.reading.taken.Goals as goal

pub returns-in-Ok-clause-ok : goal.returns-in-Ok-clause-ok
returns-in-Ok-clause-ok g c = is_whole _ _ _ _ _ _ _ c.in-Ok.ensures.kept c.into_reader.ensures.lost (rw c.GREATEST.ensures at c.load_from-taken.ensures.all)

pub returns-in-Ok-clause-fails : goal.returns-in-Ok-clause-fails
returns-in-Ok-clause-fails g c = is_not_loaded _ _ _ _ _ _ _ c.in-Ok.ensures.kept c.into_reader.ensures.lost (rw c.GREATEST.ensures at c.load_from-taken.ensures.stops)
