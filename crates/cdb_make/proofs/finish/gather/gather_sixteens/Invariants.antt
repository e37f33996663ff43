use Rattle.cdb_make.proofs.Words.{all_gathered, length, roll_entries, rooms_of, tables_of, take, ◌-◌, ◌≡◌, ◌≤◌}
use Rattle.cdb_make.proofs.finish.gather.gather_sixteens.Given as goal

-- the entries so far are gathered
abbrev pub invariant-loop-n : goal.invariant-loop-n
invariant-loop-n g l = record {
  inside : l.n ≤ length l.roll.hashes.items;
  all : all_gathered l.gathered ≡ tables_of (take l.n (roll_entries l.roll)) l.first (length l.fn.gathered);
  rooms : rooms_of l.gathered ≡ rooms_of l.fn.gathered;
  long : length l.gathered ≡ length l.fn.gathered;
}

abbrev pub decreases-loop-n : goal.decreases-loop-n
decreases-loop-n g l = length l.roll.hashes.items - l.n
