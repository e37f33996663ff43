use Rattle.std.proofs.Common.{◌-◌, ◌≡◌, ◌+◌, ◌≤◌}
use Rattle.cdb_store.specs.Images.{TornWithin, Copied}
use Rattle.cdb_make.proofs.move_down.move_pieces.Given as goal

abbrev pub invariant-loop-done : goal.invariant-loop-done
invariant-loop-done g l = record {
  inside : l.done ≤ l.len;
  copied : Copied l.from l.to l.done (g.S.Store.image l.fn.store) (g.S.Store.image l.store);
  torn : TornWithin l.to l.len (g.S.Store.image l.fn.store) (g.S.Store.image l.store);
  size : g.S.Store.size l.store ≡ g.S.Store.size l.fn.store;
  written : g.S.Store.written l.store ≡ g.S.Store.written l.fn.store + l.done;
  failures : g.S.Store.failures l.store ≡ g.S.Store.failures l.fn.store;
  unwritten : g.S.Store.unwritten l.fn.store ≤ g.S.Store.unwritten l.store;
  room : g.S.Store.room l.fn.store ≤ g.S.Store.room l.store;
}

abbrev pub decreases-loop-done : goal.decreases-loop-done
decreases-loop-done g l = l.len - l.done
