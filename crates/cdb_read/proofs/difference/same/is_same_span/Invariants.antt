use Rattle.cdb_read.proofs.DifferenceWords.{List, ReadBoth, part, ℕ, ◌-◌, ◌≡◌, ◌≤◌}
use Rattle.cdb_read.proofs.difference.same.is_same_span.Given as goal

-- the pieces so far were the same
abbrev pub invariant-loop-done : goal.invariant-loop-done
invariant-loop-done g l =
    record {
      within : l.done ≤ l.mine.len;
      reads : ReadBoth l.fn.own l.own l.fn.other l.other;
      same : (b c : List ℕ) → g.S.Store.image l.own.store b → g.T.Store.image l.other.store c → part l.mine.place l.done b ≡ part l.theirs.place l.done c;
    }

abbrev pub decreases-loop-done : goal.decreases-loop-done
decreases-loop-done g l = l.mine.len - l.done
