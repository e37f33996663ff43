use Rattle.cdb_read.proofs.DifferenceWords.{List, OnlyReads, mark_hash, part, ℕ, ◌-◌, ◌≡◌, ◌≤◌}
use Rattle.cdb_read.proofs.difference.mark_hash.mark_hash.Given as goal

-- the hash of the bytes so far
abbrev pub invariant-loop-done : goal.invariant-loop-done
invariant-loop-done g l =
    record {
      within : l.done ≤ l.key.len;
      reads : OnlyReads g.S.Store l.fn.reader.store l.reader.store;
      hash : (b : List ℕ) → g.S.Store.image l.reader.store b → l.hash ≡ mark_hash (part l.key.place l.done b);
    }

abbrev pub decreases-loop-done : goal.decreases-loop-done
decreases-loop-done g l = l.key.len - l.done
