use Rattle.cdb_make.proofs.Words.{OnlyReads, length, take, ◌-◌, ◌≡◌, ◌≤◌}
use Rattle.cdb_make.proofs.Bytes.Compare.{AgreesSoFar}
use Rattle.cdb_make.proofs.key_at.is_read_at.Given as goal

abbrev pub invariant-loop-done : goal.invariant-loop-done
invariant-loop-done g l = record {
  inside : l.done ≤ length l.key;
  piece : length l.piece ≡ length l.fn.piece;
  agrees : AgreesSoFar l.place (take l.done l.key) (g.S.Store.image l.store);
  reads : OnlyReads g.S.Store l.fn.store l.store;
  fine : g.S.Store.failures l.store ≡ g.S.Store.failures l.fn.store;
}

abbrev pub decreases-loop-done : goal.decreases-loop-done
decreases-loop-done g l = length l.key - l.done
