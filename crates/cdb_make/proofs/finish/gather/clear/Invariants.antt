use Rattle.cdb_make.proofs.Words.{[], all_gathered, get_or, length, rooms_of, ℕ, ◌<◌, ◌≡◌}
use Rattle.cdb_make.proofs.finish.gather.clear.Given as goal

abbrev pub invariant-loop-n : goal.invariant-loop-n
invariant-loop-n g l = record {
  none : (k : ℕ) → k < l.n → get_or (all_gathered l.gathered) k [] ≡ [];
  rooms : rooms_of l.gathered ≡ rooms_of l.fn.gathered;
  long : length l.gathered ≡ length l.fn.gathered;
}
