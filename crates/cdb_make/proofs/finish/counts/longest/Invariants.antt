use Rattle.cdb_make.proofs.Words.{All, take, ℕ, ◌≤◌}
use Rattle.cdb_make.proofs.finish.counts.longest.Given as goal

abbrev pub invariant-loop-count : goal.invariant-loop-count
invariant-loop-count l = record {
  most : All (λ count. count ≤ l.most) (take l.count-index l.counts);
  least : (most : ℕ) → All (λ count. count ≤ most) l.counts → l.most ≤ most;
}
