use Rattle.std.proofs.lemmas.Result.{err_from_is_err_and}
use Rattle.cdb_tool.proofs.Courses.{removal_done, removal_failed, unremoved}
use Rattle.cdb_tool.proofs.runs.make_input.remove_key.Goals as goal

pub returns-clause-does : goal.returns-clause-does
returns-clause-does g c = λ options input number now.
    removal_done {s = g.S.Store} {l = g.L.Width} options input number c.args.key.now _ now c.args.maker.now c.remove.new.self c.in_ok-remove.ensures.removes c.remove.ensures.follows.comes c.remove.ensures.follows.limit

pub returns-in_err-remove-clause-does : goal.returns-in_err-remove-clause-does
returns-in_err-remove-clause-does g c =
    let p = err_from_is_err_and c.from_residual.result c.from_residual.ensures.1 in
    rw (p.1, p.2) (λ options input number now. removal_failed {s = g.S.Store} {l = g.L.Width} options input number c.args.key.now now c.args.maker.now c.remove.new.self c.in_err-remove.field-0.0 c.in_err-remove.ensures.fails c.remove.ensures.follows.comes c.in_err-remove.ensures.counts.count)

pub returns-in_err-remove-clause-fails : goal.returns-in_err-remove-clause-fails
returns-in_err-remove-clause-fails g c =
    let p = err_from_is_err_and c.from_residual.result c.from_residual.ensures.1 in
    rw (p.1, p.2) (λ t cs start now h. unremoved {s = g.S.Store} {l = g.L.Width} t cs c.args.key.now start now c.args.maker.now c.remove.new.self c.in_err-remove.field-0.0 h c.in_err-remove.ensures.fails c.remove.ensures.follows.comes)
