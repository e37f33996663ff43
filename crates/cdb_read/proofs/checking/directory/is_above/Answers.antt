use Rattle.cdb_read.proofs.Words.{arith, get_or, ltb-true, ◌≤◌}
use Rattle.cdb_read.proofs.Checks.Entered.{rising_from}
use Rattle.cdb_read.proofs.checking.directory.is_above.Goals as goal

pub returns-then-n-places-2-clause-above : goal.returns-then-n-places-2-clause-above
returns-then-n-places-2-clause-above c = λ less rising k from low here.
    let far : get_or c.args.places.now c.args.n 0 ≤ get_or c.args.places.now k 0 = rising_from c.args.places.now c.args.n k rising from low in
    omega (arith, far, here, ltb-true _ _ less)
