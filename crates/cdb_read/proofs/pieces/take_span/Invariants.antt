use Rattle.cdb_read.proofs.Words.{OnlyReads, length, ◌-◌, ◌≡◌, ◌≤◌}
use Rattle.cdb_read.proofs.Bytes.PieceReads.{HasTaken}
use Rattle.cdb_read.proofs.pieces.take_span.Given as goal

abbrev pub invariant-loop-done : goal.invariant-loop-done
invariant-loop-done g l = record {
  within : l.done ≤ l.span.len;
  piece : length l.piece ≡ length l.fn.piece;
  reads : OnlyReads g.S.Store l.fn.store l.store;
  long : length l.into.items ≡ l.done;
  taken : HasTaken l.span.place l.done l.into.items (g.S.Store.image l.store);
}

abbrev pub decreases-loop-done : goal.decreases-loop-done
decreases-loop-done g l = l.span.len - l.done
