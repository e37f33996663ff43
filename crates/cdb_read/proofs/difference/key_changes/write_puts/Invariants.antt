use Rattle.cdb_read.proofs.DifferenceWords.{slots_left, ◌≡◌}
use Rattle.cdb_read.proofs.PutValues.{PutSoFar}
use Rattle.cdb_read.proofs.difference.key_changes.write_puts.Given as goal

-- the values so far were put
abbrev pub invariant-loop-value : goal.invariant-loop-value
invariant-loop-value g l =
    record {
      same : l.finder.reader.ghost_name ≡ l.initial.finder.reader.ghost_name;
      key : l.finder.key.now ≡ l.key;
      put : PutSoFar g.L.Width.WORD l.key l.fn.reader.store l.finder (g.W.Sink.contents l.fn.w) (g.W.Sink.contents l.w);
    }

abbrev pub decreases-loop-value : goal.decreases-loop-value
decreases-loop-value g l = slots_left l.finder
