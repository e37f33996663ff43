use Rattle.cdb_read.proofs.Words.{OnlyReads, ProbeInside, Shows, ◌≤◌}
use Rattle.cdb_read.proofs.Probing.Searches.{SameAhead}
use Rattle.cdb_read.proofs.lookup.search.next_met.Given as goal

abbrev pub invariant-loop-probe : goal.invariant-loop-probe
invariant-loop-probe g l = record {
  inside : ProbeInside g.L.Width.WORD (g.S.Store.size l.store) l.probe;
  fewer : l.probe.left ≤ l.fn.from.left;
  shows : Shows l.window (g.S.Store.image l.store);
  slots : Shows l.slots (g.S.Store.image l.store);
  reads : OnlyReads g.S.Store l.fn.store l.store;
  same : SameAhead g.L.Width.WORD l.key l.fn.from l.probe (g.S.Store.image l.store);
}

abbrev pub decreases-loop-probe : goal.decreases-loop-probe
decreases-loop-probe g l = l.probe.left
