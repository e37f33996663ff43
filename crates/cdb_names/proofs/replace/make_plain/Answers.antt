use Rattle.cdb_names.proofs.Replacing.{go_on}
use Rattle.cdb_names.proofs.Stops.{seen_since, steps_go_on}
use Rattle.std.proofs.Common.{refl}
use Rattle.std.proofs.lemmas.Result.{err_from_is_err_and}
use Rattle.cdb_names.proofs.replace.make_plain.Goals as goal

pub returns-in_err-made-clause-steps : goal.returns-in_err-made-clause-steps
returns-in_err-made-clause-steps g c = go_on (λ b is. is) c.show_bits.ensures.steps c.make_own.ensures.steps

pub returns-clause-steps : goal.returns-clause-steps
returns-clause-steps g c = go_on (λ b is. is) c.show_bits.ensures.steps c.make_own.ensures.steps

pub returns-in_err-bits-clause-err : goal.returns-in_err-bits-clause-err
returns-in_err-bits-clause-err g c first free =
    let p = err_from_is_err_and c.from_residual.result c.from_residual.ensures.1 in
    rw (p.1, p.2) (c.in_err-bits.ensures.err first free)

pub returns-in_err-made-clause-err : goal.returns-in_err-made-clause-err
returns-in_err-made-clause-err g c first free =
    let p = err_from_is_err_and c.from_residual-in_err-made.result c.from_residual-in_err-made.ensures.1 in
    rw (p.1, p.2) (c.in_err-made.ensures.err first (c.in_ok-bits.ensures.free first free))

pub returns-clause-seen : goal.returns-clause-seen
returns-clause-seen g c = seen_since c.args.temporary.now c.args.name.now _ _ _ (steps_go_on c.make_own.ensures.steps) (c.in_ok-bits.ensures.seen _ refl)
