use Rattle.cdb_make.proofs.Words.{marks_in, HasRoom, HaveHash, KeyValue, List, OnlyReads, SameRecords, Sees, false, found_of, fresh, get_or, gone_of, length, searched, ℕ, ◌<◌, ◌≡◌, ◌≤◌}
use Rattle.cdb_make.proofs.look.find.Given as goal

abbrev pub invariant-loop-n : goal.invariant-loop-n
invariant-loop-n g l = record {
  within : l.end ≤ length l.roll.hashes.items;
  each : (b : List ℕ) → g.S.Store.image l.store b → (all : List KeyValue) → Sees l.roll all b
      → (k : ℕ) → l.end ≤ k → k < length l.roll.hashes.items → get_or (found_of (marks_in l.roll)) k false ≡ get_or (fresh l.key (gone_of (marks_in l.roll)) all) k false;
  below : (k : ℕ) → k < l.end → get_or (found_of (marks_in l.roll)) k false ≡ false;
  hash : HaveHash l.sought (searched l.roll) (marks_in l.roll);
  same : SameRecords l.fn.roll l.roll;
  tagged : l.roll.tagged ≡ l.fn.roll.tagged;
  room : HasRoom l.fn.roll → HasRoom l.roll;
  gone : gone_of (marks_in l.roll) ≡ gone_of (marks_in l.fn.roll);
  kept : l.roll.gone ≡ l.fn.roll.gone;
  failures : g.S.Store.failures l.store ≡ g.S.Store.failures l.fn.store;
  reads : OnlyReads g.S.Store l.fn.store l.store;
}

abbrev pub decreases-loop-n : goal.decreases-loop-n
decreases-loop-n g l = l.end
