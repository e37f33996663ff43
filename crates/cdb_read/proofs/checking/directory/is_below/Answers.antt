use Rattle.cdb_read.proofs.Words.{arith, get_or, ltb-true, ◌-◌, ◌≤◌}
use Rattle.cdb_read.proofs.Checks.Entered.{rising_from}
use Rattle.cdb_read.proofs.checking.directory.is_below.Goals as goal

pub returns-then-n-places : goal.returns-then-n-places
returns-then-n-places c = λ less rising k low here.
    let far : get_or c.args.places.now k 0 ≤ get_or c.args.places.now (c.args.n - 1) 0 = rising_from c.args.places.now k (c.args.n - 1) rising (omega arith) (omega arith) in
    omega (arith, far, here, ltb-true _ _ less)
