use Rattle.std.proofs.Common.{[], append-nil, inr, sym}
use Rattle.cdb_names.proofs.Locking.{built_removable}
use Rattle.cdb_names.proofs.Replacing.{go_on, cleared}
use Rattle.cdb_names.proofs.Stops.{free_since, further, held_seen, steps_go_on, stops_since, unbuilt}
use Rattle.std.proofs.lemmas.Result.{IfErr-weaker, err_from_is_err_and}
use Rattle.cdb_names.proofs.replace.make_temporary.Goals as goal

pub returns-in_err-clear-clause-steps : goal.returns-in_err-clear-clause-steps
returns-in_err-clear-clause-steps g c = go_on (λ b is. is) c.see_names.ensures.steps c.clear.ensures.steps

pub returns-in_default-clause-steps : goal.returns-in_default-clause-steps
returns-in_default-clause-steps g c =
    go_on (λ b is. is) (go_on (λ b is. is) c.see_names.ensures.steps c.clear.ensures.steps) c.make_plain.ensures.steps

pub returns-in_err-made-clause-steps : goal.returns-in_err-made-clause-steps
returns-in_err-made-clause-steps g c =
    go_on (λ b is. is) (go_on (λ b is. is) c.see_names.ensures.steps c.clear.ensures.steps) c.make_own.ensures.steps

pub returns-then-made-old-clause-steps : goal.returns-then-made-old-clause-steps
returns-then-made-old-clause-steps g c =
    go_on (λ b is. is) (go_on (λ b is. is) c.see_names.ensures.steps c.clear.ensures.steps) c.make_own.ensures.steps

pub returns-clause-steps : goal.returns-clause-steps
returns-clause-steps g c =
    let built = go_on (λ b is. is) (go_on (λ b is. is) c.see_names.ensures.steps c.clear.ensures.steps) c.make_own.ensures.steps in
    let may = built_removable c.args.temporary.now c.args.name.now _ _ c.in_ok-made.ensures.made in
    go_on (λ b is. is) (cleared _ built may c.remove_own.ensures) c.make_plain-2.ensures.steps

pub returns-in_err-clear-clause-err : goal.returns-in_err-clear-clause-err
returns-in_err-clear-clause-err g c =
    let t = c.args.temporary.now in
    let n = c.args.name.now in
    let old = g.N.Names.calls c.args.names.now in
    let p = err_from_is_err_and c.from_residual-in_err-clear.result c.from_residual-in_err-clear.ensures.1 in
    rw (p.1, p.2) (unbuilt t n old _ _ (stops_since t n old _ _ _ c.see_names.ensures.unmade c.in_err-clear.ensures.err))

pub returns-in_default-clause-err : goal.returns-in_default-clause-err
returns-in_default-clause-err g c =
    let t = c.args.temporary.now in
    let n = c.args.name.now in
    let old = g.N.Names.calls c.args.names.now in
    let free = free_since t old _ _ (steps_go_on c.see_names.ensures.steps) c.in_ok-clear.ensures.free in
    IfErr-weaker c.make_plain.result _ _ (λ f h. unbuilt t n old _ f h) (c.make_plain.ensures.err old free)

pub returns-in_err-made-clause-err : goal.returns-in_err-made-clause-err
returns-in_err-made-clause-err g c =
    let t = c.args.temporary.now in
    let n = c.args.name.now in
    let old = g.N.Names.calls c.args.names.now in
    let free = free_since t old _ _ (steps_go_on c.see_names.ensures.steps) c.in_ok-clear.ensures.free in
    let p = err_from_is_err_and c.from_residual-in_err-made.result c.from_residual-in_err-made.ensures.1 in
    rw (p.1, p.2) (unbuilt t n old _ _ (c.in_err-made.ensures.err old free))

pub returns-clause-err : goal.returns-clause-err
returns-clause-err g c =
    let t = c.args.temporary.now in
    let n = c.args.name.now in
    let old = g.N.Names.calls c.args.names.now in
    let on = further _ _ _ (further _ _ _ (steps_go_on c.see_names.ensures.steps) (steps_go_on c.clear.ensures.steps)) (steps_go_on c.make_own.ensures.steps) in
    IfErr-weaker c.make_plain-2.result _ _ (λ f h. unbuilt t n old _ f h) (c.make_plain-2.ensures.err old (_, on, inr (_, c.remove_own.ensures)))

pub returns-then-made-old-clause-seen : goal.returns-then-made-old-clause-seen
returns-then-made-old-clause-seen g c =
    let on = further _ _ _ (steps_go_on c.clear.ensures.steps) (steps_go_on c.make_own.ensures.steps) in
    held_seen c.args.temporary.now c.args.name.now c.in-Some.old _ _ _ on c.in-Some.is c.in_ok-held.ensures.seen

pub make_plain-requires-2-clause-free : goal.make_plain-requires-2-clause-free
make_plain-requires-2-clause-free g c =
    let old = g.N.Names.calls c.args.names.now in
    let on = further _ _ _ (further _ _ _ (steps_go_on c.see_names.ensures.steps) (steps_go_on c.clear.ensures.steps)) (steps_go_on c.make_own.ensures.steps) in
    free_since c.args.temporary.now [] old _ (old, sym (append-nil old)) (_, on, inr (_, c.remove_own.ensures))
