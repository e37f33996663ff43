use Rattle.cdb_make.proofs.Words.{all_gathered, drop, is_among, length, map, mask_l, roll_entries, rooms_of, tables_of, take, ◌%◌, ◌+◌, ◌-◌, ◌≡◌, ◌≤◌}
use Rattle.cdb_make.proofs.finish.gather.gather_sixteen.Given as goal

-- the entries before `at` are gathered, and a bit is left for each record from it on
abbrev pub invariant-loop-left : goal.invariant-loop-left
invariant-loop-left g l = record {
  from : l.n ≤ l.at;
  up : l.at ≤ l.n + 16;
  left : l.left ≡ mask_l (map (is_among (l.first % 256) (length l.fn.gathered - 1)) (take (l.n + 16 - l.at) (drop l.at l.roll.hashes.items)));
  all : all_gathered l.gathered ≡ tables_of (take l.at (roll_entries l.roll)) l.first (length l.fn.gathered);
  rooms : rooms_of l.gathered ≡ rooms_of l.fn.gathered;
  long : length l.gathered ≡ length l.fn.gathered;
}

abbrev pub decreases-loop-left : goal.decreases-loop-left
decreases-loop-left g l = l.n + 16 - l.at
