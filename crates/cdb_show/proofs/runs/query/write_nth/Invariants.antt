use Rattle.cdb_show.proofs.Words.{slots_left, ◌≡◌}
use Rattle.cdb_show.proofs.Queries.{PassedSoFar}
use Rattle.cdb_show.proofs.runs.query.write_nth.Given as goal

-- the values so far were passed
abbrev pub invariant-loop-value : goal.invariant-loop-value
invariant-loop-value g l =
    record {
      same : l.finder.reader.ghost_name ≡ l.initial.finder.reader.ghost_name;
      key : l.finder.key.now ≡ l.key;
      passed : PassedSoFar g.L.Width.WORD l.key l.fn.reader.store l.finder l.number l.left (g.W.Sink.contents l.fn.w) (g.W.Sink.contents l.w);
    }

abbrev pub decreases-loop-value : goal.decreases-loop-value
decreases-loop-value g l = slots_left l.finder
