use Rattle.cdb_make.proofs.Words.{length, all_marks, Has, gone_of, ℕ, ◌<◌, ◌≤◌}
use Rattle.cdb_make.proofs.chains.Chains.last.Given as goal

abbrev pub invariant-loop-at : goal.invariant-loop-at
invariant-loop-at l = record {
  within : l.at ≤ l.end;
  none : (k : ℕ) → l.at ≤ k → k < l.end → Has l.hash l.hashes (gone_of (all_marks (length l.hashes) l.marks)) k → ⊥;
}

abbrev pub decreases-loop-at : goal.decreases-loop-at
decreases-loop-at l = l.at
