use Rattle.std.proofs.Common.{rules}
use Rattle.cdb_show.proofs.QueryEnds.{opening_fails}
use Rattle.cdb_show.proofs.runs.query.query_unflushed.Goals as goal

pub returns-in-Err-clause-queries : goal.returns-in-Err-clause-queries
returns-in-Err-clause-queries g c = rw c.from.ensures (opening_fails _ g.S.Store _ _ _ _ c.in-Err.unread.fault c.in-Err.ensures.fails)

pub returns-clause-queries : goal.returns-clause-queries
returns-clause-queries g c = search rules
