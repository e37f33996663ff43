use Rattle.std.proofs.Common.{List, [], ℕ, inr, subst, ◌∙◌}
use Rattle.std.specs.Prelude.{IfErr}
use Rattle.std.proofs.lemmas.Result.{IfErr-weaker}
use Rattle.cdb_files.specs.Made.{FailsMaking, IsFileOf}
use Rattle.cdb_names.specs.Replacing.{AtEachMoment, LeavesOldOrNew}
use Rattle.cdb_names.proofs.Replacing.{no_step, are_of_replacing, are_guarded, at_each_moment}
use Rattle.cdb_files.proofs.records_file.make_file.Goals as goal

pub returns-in_default-clause-calls : goal.returns-in_default-clause-calls
returns-in_default-clause-calls g c = are_of_replacing (no_step _)

pub returns-in_default-clause-guarded : goal.returns-in_default-clause-guarded
returns-in_default-clause-guarded g c = are_guarded {t = []} {P = λ _. ⊥} (no_step _)

pub returns-in_default-clause-any_moment : goal.returns-in_default-clause-any_moment
returns-in_default-clause-any_moment g c = at_each_moment (are_of_replacing (no_step _))

pub returns-clause-err : goal.returns-clause-err
returns-clause-err g c =
    let old = g.N.Names.calls c.args.names.now in
    let new = g.N.Names.calls c.make_file_in.new.names in
    let same = c.as_str.ensures.value ∙ c.in-Ok.ensures.ok in
    IfErr-weaker c.make_file_in.result _ _ (λ f h. inr h)
    (subst (λ (t : List ℕ). IfErr c.make_file_in.result (FailsMaking t c.args.name.now old new)) same c.make_file_in.ensures.err)

pub returns-clause-any_moment : goal.returns-clause-any_moment
returns-clause-any_moment g c =
    let old = g.N.Names.calls c.args.names.now in
    let new = g.N.Names.calls c.make_file_in.new.names in
    let same = c.as_str.ensures.value ∙ c.in-Ok.ensures.ok in
    subst (λ (t : List ℕ). AtEachMoment (LeavesOldOrNew t c.args.name.now (IsFileOf g.L.Width.WORD c.args.records.now) old) old new) same c.make_file_in.ensures.any_moment
