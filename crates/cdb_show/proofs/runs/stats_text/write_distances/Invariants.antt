use Rattle.cdb_show.specs.Runs.Stats.{distance_lines}
use Rattle.cdb_show.proofs.StatsTexts.{IsAmid, lines_from}
use Rattle.cdb_show.proofs.runs.stats_text.write_distances.Given as goal

-- the lines of the distances so far were written
abbrev pub invariant-loop-distance : goal.invariant-loop-distance
invariant-loop-distance g l = IsAmid (g.W.Sink.contents l.fn.w) (g.W.Sink.contents l.w) (distance_lines l.counts) (lines_from l.counts l.distance)
