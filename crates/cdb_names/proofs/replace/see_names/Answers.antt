use Rattle.std.proofs.Common.{[], None, inl, inr, refl}
use Rattle.cdb_names.specs.declared.answer.Answer.TheVariants.{Unknown}
use Rattle.cdb_names.specs.declared.name_trace.NameCall.TheVariants.{Bits, Special}
use Rattle.cdb_names.proofs.Replacing.{no_step, step}
use Rattle.cdb_names.proofs.Stops.{no_more, none_made, one_more, one_unmade}
use Rattle.cdb_names.proofs.replace.see_names.Goals as goal

pub returns-in-Some-clause-steps : goal.returns-in-Some-clause-steps
returns-in-Some-clause-steps g c =
    step _ (Bits c.bits_for.result, c.args.name.now, [], []) (step _ (Special c.is_special.result, c.args.name.now, [], []) (no_step _) c.is_special.ensures tt tt) c.bits_for.ensures tt tt

pub returns-in-None-clause-steps : goal.returns-in-None-clause-steps
returns-in-None-clause-steps g c =
    step _ (Bits c.bits_for.result, c.args.name.now, [], []) (step _ (Special c.is_special.result, c.args.name.now, [], []) (no_step _) c.is_special.ensures tt tt) c.bits_for.ensures tt tt

pub returns-in-None-clause-err : goal.returns-in-None-clause-err
returns-in-None-clause-err g c =
    let old = g.N.Names.calls c.args.names.now in
    let unmade = one_unmade c.args.temporary.now old _ _ (Special c.is_special.result, c.args.name.now, [], []) tt (none_made _ old) c.is_special.ensures in
    inr ((Bits None, c.args.name.now, [], []), _, one_more _ _ _ _ (no_more old) c.is_special.ensures, inl ((refl, unmade), c.in-None.ensures))

pub returns-in-Yes-clause-steps : goal.returns-in-Yes-clause-steps
returns-in-Yes-clause-steps g c =
    step _ (Special c.is_special.result, c.args.name.now, [], []) (no_step _) c.is_special.ensures tt tt

pub returns-in-Unknown-clause-steps : goal.returns-in-Unknown-clause-steps
returns-in-Unknown-clause-steps g c =
    step _ (Special c.is_special.result, c.args.name.now, [], []) (no_step _) c.is_special.ensures tt tt

pub returns-in-Unknown-clause-err : goal.returns-in-Unknown-clause-err
returns-in-Unknown-clause-err g c =
    inr ((Special Unknown, c.args.name.now, [], []), g.N.Names.calls c.args.names.now, no_more _, inl ((refl, none_made c.args.temporary.now _), c.in-Unknown.ensures))

pub returns-in-Some-clause-seen : goal.returns-in-Some-clause-seen
returns-in-Some-clause-seen g c = (_, c.in-Some.ensures)

pub returns-in-Some-clause-unmade : goal.returns-in-Some-clause-unmade
returns-in-Some-clause-unmade g c =
    let t = c.args.temporary.now in
    let n = c.args.name.now in
    one_unmade t _ _ _ (Bits c.bits_for.result, n, [], []) tt (one_unmade t _ _ _ (Special c.is_special.result, n, [], []) tt (none_made t _) c.is_special.ensures) c.bits_for.ensures

pub returns-in-None-clause-unmade : goal.returns-in-None-clause-unmade
returns-in-None-clause-unmade g c =
    let t = c.args.temporary.now in
    let n = c.args.name.now in
    one_unmade t _ _ _ (Bits c.bits_for.result, n, [], []) tt (one_unmade t _ _ _ (Special c.is_special.result, n, [], []) tt (none_made t _) c.is_special.ensures) c.bits_for.ensures

pub returns-in-Yes-clause-unmade : goal.returns-in-Yes-clause-unmade
returns-in-Yes-clause-unmade g c = one_unmade c.args.temporary.now _ _ _ (Special c.is_special.result, c.args.name.now, [], []) tt (none_made c.args.temporary.now _) c.is_special.ensures

pub returns-in-Unknown-clause-unmade : goal.returns-in-Unknown-clause-unmade
returns-in-Unknown-clause-unmade g c = one_unmade c.args.temporary.now _ _ _ (Special c.is_special.result, c.args.name.now, [], []) tt (none_made c.args.temporary.now _) c.is_special.ensures
