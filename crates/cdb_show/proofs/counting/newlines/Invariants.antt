use Rattle.cdb_show.proofs.Words.{length, newlines, take, ◌-◌, ◌≡◌, ◌≤◌}
use Rattle.cdb_show.proofs.counting.newlines.Given as goal

-- those of the bytes so far were counted
abbrev pub invariant-loop-at : goal.invariant-loop-at
invariant-loop-at l =
    record {
      counted : l.count ≡ newlines (take l.at l.fn.bytes);
      within : l.at ≤ length l.fn.bytes;
    }

abbrev pub decreases-loop-at : goal.decreases-loop-at
decreases-loop-at l = length l.fn.bytes - l.at
