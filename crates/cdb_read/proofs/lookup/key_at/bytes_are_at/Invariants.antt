use Rattle.cdb_read.proofs.Words.{OnlyReads, Shows, length, take, ◌-◌, ◌≤◌}
use Rattle.cdb_read.proofs.Bytes.Compare.{AgreesSoFar}
use Rattle.cdb_read.proofs.lookup.key_at.bytes_are_at.Given as goal

abbrev pub invariant-loop-done : goal.invariant-loop-done
invariant-loop-done g l = record {
  inside : l.done ≤ length l.bytes;
  shows : Shows l.window (g.S.Store.image l.store);
  agrees : AgreesSoFar l.place (take l.done l.bytes) (g.S.Store.image l.store);
  reads : OnlyReads g.S.Store l.fn.store l.store;
}

abbrev pub decreases-loop-done : goal.decreases-loop-done
decreases-loop-done g l = length l.bytes - l.done
