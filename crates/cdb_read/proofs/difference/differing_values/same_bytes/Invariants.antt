use Rattle.cdb_read.proofs.DifferenceWords.{List, StaysAt, length, part, ℕ, ◌-◌, ◌≡◌, ◌≤◌}
use Rattle.cdb_read.proofs.difference.differing_values.same_bytes.Given as goal

-- the pieces so far were the same
abbrev pub invariant-loop-done : goal.invariant-loop-done
invariant-loop-done g l =
    record {
      within : l.done ≤ l.value.len;
      mine : length l.mine ≡ length l.fn.mine;
      theirs : length l.theirs ≡ length l.fn.theirs;
      own : StaysAt l.fn.own l.own;
      other : StaysAt l.fn.other l.other;
      same : (b c : List ℕ) → g.S.Store.image l.own.reader.now.store b → g.T.Store.image l.other.reader.now.store c → part l.value.place l.done b ≡ part l.with.place l.done c;
    }

abbrev pub decreases-loop-done : goal.decreases-loop-done
decreases-loop-done g l = l.value.len - l.done
