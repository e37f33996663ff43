use Rattle.cdb_make.proofs.Words.{all_marks, length, vec_capacity, ◌-◌, ◌≡◌, ◌≤◌}
use Rattle.cdb_make.proofs.roll.mark_each.Given as goal

abbrev pub invariant-loop-marks : goal.invariant-loop-marks
invariant-loop-marks l = record {
  all : all_marks l.count l.marks.items ≡ all_marks l.count l.fn.marks.items;
  few : length l.marks.items ≤ l.count;
  room : vec_capacity l.marks ≡ vec_capacity l.fn.marks;
}

abbrev pub decreases-loop-marks : goal.decreases-loop-marks
decreases-loop-marks l = l.count - length l.marks.items
