use Rattle.cdb_make.proofs.Words.{get_or, gone_of, left, length, take, ℕ, ◌≡◌, ◌≤◌}
use Rattle.cdb_make.proofs.tags.compact_each.Given as goal

abbrev pub invariant-loop-n : goal.invariant-loop-n
invariant-loop-n l = record {
  behind : l.count ≤ l.n;
  up : l.n ≤ length l.marks;
  long : length l.tags ≡ length l.fn.tags;
  later : (k : ℕ) → l.n ≤ k → get_or l.tags k 0 ≡ get_or l.fn.tags k 0;
  tags : take l.count l.tags ≡ left (take l.n (gone_of l.marks)) (take l.n l.fn.tags);
}
