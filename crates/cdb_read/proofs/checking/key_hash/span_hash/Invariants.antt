use Rattle.cdb_read.proofs.Words.{List, OnlyReads, Shows, key_hash, part, ℕ, ◌-◌, ◌≡◌, ◌≤◌}
use Rattle.cdb_read.proofs.checking.key_hash.span_hash.Given as goal

-- the hash of the bytes so far
abbrev pub invariant-loop-done : goal.invariant-loop-done
invariant-loop-done g l =
    record {
      inside : l.done ≤ l.span.len;
      shows : Shows l.window (g.S.Store.image l.store);
      reads : OnlyReads g.S.Store l.fn.store l.store;
      hash : (b : List ℕ) → g.S.Store.image l.store b → l.hash ≡ key_hash (part l.span.place l.done b);
    }

abbrev pub decreases-loop-done : goal.decreases-loop-done
decreases-loop-done g l = l.span.len - l.done
