use Rattle.cdb_make.proofs.Words.{AreChained, IsIn, IsTakenFrom, bucket_of, false, get_or, gone_of, length, slice_index, true, ◌-◌, ◌<◌, ◌≡◌, ◌≤◌}
use Rattle.cdb_make.proofs.chains.Chains.take_linked.Given as goal

-- `at` is the number after an entry of the bucket, or 0, and `newer` that of the next one of it, or 0
abbrev pub invariant-loop-at : goal.invariant-loop-at
invariant-loop-at l = record {
  chained : AreChained l.self.heads.items l.self.before.items l.hashes (gone_of l.marks);
  wide : length l.self.heads.items ≡ length l.fn.self.heads.items;
  linked : length l.self.before.items ≡ length l.fn.self.before.items;
  long : length l.marks ≡ length l.fn.marks;
  taken : IsTakenFrom l.at (length l.fn.self.before.items) l.fn.marks l.marks;
  within : l.at ≤ length l.self.before.items;
  here : 0 < l.at → IsIn (length l.self.heads.items) (bucket_of (length l.self.heads.items) l.hash) l.hashes (gone_of l.marks) (l.at - 1);
  last : 0 < l.at → l.newer ≡ 0 → slice_index l.self.heads.items (bucket_of (length l.self.heads.items) l.hash) ≡ l.at;
  next : 0 < l.at → 0 < l.newer → (l.newer ≤ length l.self.before.items) × (get_or (gone_of l.marks) (l.newer - 1) true ≡ false) × (slice_index l.self.before.items (l.newer - 1) ≡ l.at);
}

abbrev pub decreases-loop-at : goal.decreases-loop-at
decreases-loop-at l = l.at
