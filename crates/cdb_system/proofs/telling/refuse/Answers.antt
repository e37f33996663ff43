use Rattle.cdb_system.proofs.Said.{says_line}
use Rattle.cdb_system.proofs.telling.refuse.Goals as goal

pub returns-clause-line : goal.returns-clause-line
returns-clause-line g c = says_line c.write_refused.result _ _ _ _ c.write_refused.ensures.writes c.write_refused.ensures.failed
