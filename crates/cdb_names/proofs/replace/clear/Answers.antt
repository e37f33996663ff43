use Rattle.std.proofs.Common.{[], refl, inl}
use Rattle.cdb_names.specs.declared.answer.Found.TheVariants.{Other, Unknown}
use Rattle.cdb_names.specs.declared.name_trace.NameCall.TheVariants.{Looked, Same}
use Rattle.cdb_names.proofs.Replacing.{no_step, step, go_on}
use Rattle.std.proofs.lemmas.Result.{IfErr-weaker, on_ok_weaker}
use Rattle.cdb_names.proofs.Stops.{free_since, may_be_it, no_more, none_made, one_more, one_unmade, stops_since}
use Rattle.cdb_names.proofs.replace.clear.Goals as goal

pub returns-in-Nothing-clause-steps : goal.returns-in-Nothing-clause-steps
returns-in-Nothing-clause-steps g c = step _ (Looked c.look.result, c.args.temporary.now, [], []) (no_step _) c.look.ensures tt tt

pub returns-in-Other-clause-steps : goal.returns-in-Other-clause-steps
returns-in-Other-clause-steps g c = step _ (Looked c.look.result, c.args.temporary.now, [], []) (no_step _) c.look.ensures tt tt

pub returns-in-Other-clause-err : goal.returns-in-Other-clause-err
returns-in-Other-clause-err g c = ((Looked Other, c.args.temporary.now, [], []), g.N.Names.calls c.args.names.now, no_more _, inl ((refl, none_made c.args.temporary.now _), c.in-Other.ensures))

pub returns-in-Unknown-clause-steps : goal.returns-in-Unknown-clause-steps
returns-in-Unknown-clause-steps g c = step _ (Looked c.look.result, c.args.temporary.now, [], []) (no_step _) c.look.ensures tt tt

pub returns-in-Unknown-clause-err : goal.returns-in-Unknown-clause-err
returns-in-Unknown-clause-err g c = ((Looked Unknown, c.args.temporary.now, [], []), g.N.Names.calls c.args.names.now, no_more _, inl ((refl, none_made c.args.temporary.now _), c.in-Unknown.ensures))

pub returns-in-Nothing-clause-free : goal.returns-in-Nothing-clause-free
returns-in-Nothing-clause-free g c = (g.N.Names.calls c.args.names.now, no_more _, inl c.in-Nothing.ensures)

pub returns-in-No-clause-steps : goal.returns-in-No-clause-steps
returns-in-No-clause-steps g c =
    go_on (λ b is. is) (step _ (Same c.is_file_of.result, c.args.temporary.now, c.args.name.now, []) (step _ (Looked c.look.result, c.args.temporary.now, [], []) (no_step _) c.look.ensures tt tt) c.is_file_of.ensures tt tt) c.remove_old.ensures.steps

pub returns-in-Yes-clause-steps : goal.returns-in-Yes-clause-steps
returns-in-Yes-clause-steps g c =
    step _ (Same c.is_file_of.result, c.args.temporary.now, c.args.name.now, []) (step _ (Looked c.look.result, c.args.temporary.now, [], []) (no_step _) c.look.ensures tt tt) c.is_file_of.ensures tt tt

pub returns-in-Yes-clause-err : goal.returns-in-Yes-clause-err
returns-in-Yes-clause-err g c = may_be_it c.args.temporary.now c.args.name.now (g.N.Names.calls c.args.names.now) _ _ c.is_file_of.result (one_more _ _ _ _ (no_more _) c.in-File.ensures) (g.N.Names.calls c.args.names.now, none_made c.args.temporary.now _, c.in-File.ensures) c.in-Yes.is c.is_file_of.ensures

pub returns-in-No-clause-err : goal.returns-in-No-clause-err
returns-in-No-clause-err g c =
    let t = c.args.temporary.now in
    let n = c.args.name.now in
    let old = g.N.Names.calls c.args.names.now in
    let unmade = one_unmade t old _ _ (Same c.is_file_of.result, t, n, []) tt (one_unmade t old _ _ (Looked c.look.result, t, [], []) tt (none_made t old) c.look.ensures) c.is_file_of.ensures in
    IfErr-weaker c.remove_old.result _ _ (λ f h. stops_since t n old _ _ f unmade h) c.remove_old.ensures.err

pub returns-in-No-clause-free : goal.returns-in-No-clause-free
returns-in-No-clause-free g c =
    on_ok_weaker c.remove_old.result (free_since c.args.temporary.now (g.N.Names.calls c.args.names.now) _ _ (one_more _ _ _ _ (one_more _ _ _ _ (no_more _) c.look.ensures) c.is_file_of.ensures)) c.remove_old.ensures.free
