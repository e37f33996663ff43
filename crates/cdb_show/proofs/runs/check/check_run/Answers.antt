use Rattle.cdb_show.proofs.Words.{rules}
use Rattle.cdb_show.proofs.Checks.{opening_unchecked}
use Rattle.cdb_show.proofs.runs.check.check_run.Goals as goal

pub returns-in-Err-clause-fails : goal.returns-in-Err-clause-fails
returns-in-Err-clause-fails g c = rw c.from.ensures (opening_unchecked _ g.S.Store _ _ c.in-Err.unread.fault (g.met.S.Store.image_size c.in-Err.unread.store) c.in-Err.ensures.fails)

pub returns-clause-sound : goal.returns-clause-sound
returns-clause-sound g c = search rules
