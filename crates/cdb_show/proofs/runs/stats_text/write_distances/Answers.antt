use Rattle.cdb_show.proofs.Words.{arith, err_from_is_err_and, writes_prefix}
use Rattle.cdb_show.proofs.StatsTexts.{amid_none, amid_more, amid_prefix, amid_last, lines_are, lines_next, lines_last}
use Rattle.cdb_show.proofs.runs.stats_text.write_distances.Goals as goal

pub loop-distance-init : goal.loop-distance-init
loop-distance-init g c = rw (lines_are c.args.counts.now) (amid_none _ _)

pub returns-in_err-write_distance-clause-writes : goal.returns-in_err-write_distance-clause-writes
returns-in_err-write_distance-clause-writes g c =
    let p = err_from_is_err_and c.from_residual.result c.from_residual.ensures.1 in
    writes_prefix _ _ _ _ _ p.1 (amid_prefix _ _ _ _ _ _ _ c.loop-distance.invariant (lines_next c.args.counts.now c.loop-distance.distance (omega arith)) c.in_err-write_distance.ensures.writes.err)

pub loop-distance-preserved : goal.loop-distance-preserved
loop-distance-preserved g c = amid_more _ _ _ _ _ _ _ c.loop-distance.invariant (lines_next c.args.counts.now c.loop-distance.distance (omega arith)) c.in_ok-write_distance.ensures.writes.ok

pub returns-clause-writes : goal.returns-clause-writes
returns-clause-writes g c = amid_last c.write_count.result _ _ _ _ _ (rw (lines_last c.args.counts.now c.loop-distance.distance (omega arith)) at c.loop-distance.invariant) c.write_count.ensures.writes
