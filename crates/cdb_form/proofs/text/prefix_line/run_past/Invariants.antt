use Rattle.cdb_form.proofs.Words.{get_or, is_of, length, true, ℕ, ◌-◌, ◌<◌, ◌≡◌, ◌≤◌}
use Rattle.cdb_form.proofs.text.prefix_line.run_past.Given as goal

-- the bytes so far are of the kind
abbrev pub invariant-loop-place : goal.invariant-loop-place
invariant-loop-place l =
    record {
      within : l.place ≤ length l.bytes;
      each : (k : ℕ) → k < l.place → is_of l.kind (get_or l.bytes k 0) ≡ true;
    }

abbrev pub decreases-loop-place : goal.decreases-loop-place
decreases-loop-place l = length l.bytes - l.place
