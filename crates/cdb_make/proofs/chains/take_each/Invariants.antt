use Rattle.cdb_make.proofs.Words.{IsTakenFrom, length, ◌≡◌}
use Rattle.cdb_make.proofs.chains.take_each.Given as goal

abbrev pub invariant-loop-n : goal.invariant-loop-n
invariant-loop-n l = record {
  long : length l.marks ≡ length l.fn.marks;
  taken : IsTakenFrom l.from l.n l.fn.marks l.marks;
}
