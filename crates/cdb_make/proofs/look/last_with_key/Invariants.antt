use Rattle.cdb_make.proofs.Words.{marks_in, IsFreshRecord, KeyValue, List, OnlyReads, Sees, gone_of, ℕ, ◌<◌, ◌≡◌, ◌≤◌}
use Rattle.cdb_make.proofs.look.last_with_key.Given as goal

abbrev pub invariant-loop-n : goal.invariant-loop-n
invariant-loop-n g l = record {
  within : l.before ≤ l.end;
  none : (b : List ℕ) → g.S.Store.image l.store b → (all : List KeyValue) → Sees l.roll all b
      → (k : ℕ) → l.before ≤ k → k < l.end → IsFreshRecord l.key (gone_of (marks_in l.roll)) all k → ⊥;
  failures : g.S.Store.failures l.store ≡ g.S.Store.failures l.fn.store;
  reads : OnlyReads g.S.Store l.fn.store l.store;
}

abbrev pub decreases-loop-n : goal.decreases-loop-n
decreases-loop-n g l = l.before
