use Rattle.cdb_system.proofs.Said.{says_line}
use Rattle.cdb_system.proofs.telling.tell.Goals as goal

pub returns-clause-says : goal.returns-clause-says
returns-clause-says g c = says_line c.write_told.result _ _ _ _ c.write_told.ensures.writes c.write_told.ensures.failed
