use Rattle.cdb_make.proofs.Words.{IsPutBackFrom, length, ◌≡◌}
use Rattle.cdb_make.proofs.roll.put_each_back.Given as goal

abbrev pub invariant-loop-n : goal.invariant-loop-n
invariant-loop-n l = record {
  long : length l.marks ≡ length l.fn.marks;
  back : IsPutBackFrom l.from l.n l.fn.marks l.marks;
}
