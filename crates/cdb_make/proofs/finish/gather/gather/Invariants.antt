use Rattle.cdb_make.proofs.Words.{all_gathered, length, roll_entries, rooms_of, tables_of, take, ◌≡◌}
use Rattle.cdb_make.proofs.finish.gather.gather.Given as goal

-- the entries so far are gathered
abbrev pub invariant-loop-n : goal.invariant-loop-n
invariant-loop-n g l = record {
  all : all_gathered l.gathered ≡ tables_of (take l.n (roll_entries l.roll)) l.first (length l.fn.gathered);
  rooms : rooms_of l.gathered ≡ rooms_of l.fn.gathered;
  long : length l.gathered ≡ length l.fn.gathered;
}
