use Rattle.cdb_make.proofs.Words.{AreOf, KeepsPart, List, behind, get_or, gone_of, places_in, sum, take, ℕ, ◌+◌, ◌≡◌, ◌≤◌}
use Rattle.cdb_make.proofs.Spans.{Amid}
use Rattle.cdb_make.proofs.compact.compact_bytes.Given as goal

abbrev pub invariant-loop-n : goal.invariant-loop-n
invariant-loop-n g l = record {
  low : l.start ≤ l.to;
  order : l.to ≤ l.from;
  up : l.from ≤ get_or (places_in l.places) l.n l.end;
  amid : Amid l.start l.from l.to l.n (places_in l.places) (gone_of l.marks) l.end (g.S.Store.image l.fn.store) (g.S.Store.image l.store);
  written : (sizes : List ℕ) → AreOf l.start (places_in l.places) l.end sizes
      → g.S.Store.written l.store + get_or (places_in l.places) l.n l.end ≡ g.S.Store.written l.fn.store + l.from + sum (behind (take l.n (gone_of l.marks)) (take l.n sizes));
  head : KeepsPart 0 l.start (g.S.Store.image l.fn.store) (g.S.Store.image l.store);
  size : g.S.Store.size l.store ≡ g.S.Store.size l.fn.store;
  room : g.S.Store.room l.fn.store ≤ g.S.Store.room l.store;
  failures : g.S.Store.failures l.store ≡ g.S.Store.failures l.fn.store;
  unwritten : g.S.Store.unwritten l.fn.store ≤ g.S.Store.unwritten l.store;
}
