use Rattle.std.proofs.lemmas.Grind.{common_steps}
use Rattle.std.proofs.Common.{arith, [], None, Some, refl, rules}
use Rattle.cdb_names.specs.declared.name_trace.NameCall.TheVariants.{Bits, Seen}
use Rattle.cdb_names.proofs.Replacing.{no_step, step, set_seen}
use Rattle.cdb_names.proofs.Stops.{no_more, one_more}
use Rattle.cdb_names.proofs.replace.seal.Goals as goal

pub returns-in_default-clause-steps : goal.returns-in_default-clause-steps
returns-in_default-clause-steps g c =
    step _ (Bits c.bits_for.result, c.args.name.now, [], []) (no_step _) c.bits_for.ensures tt tt

pub returns-in_err-sync_unwritable-clause-steps : goal.returns-in_err-sync_unwritable-clause-steps
returns-in_err-sync_unwritable-clause-steps g c =
    step _ (Bits c.bits_for.result, c.args.name.now, [], []) (no_step _) c.bits_for.ensures tt tt

pub returns-in_default-bits_of-clause-steps : goal.returns-in_default-bits_of-clause-steps
returns-in_default-bits_of-clause-steps g c = set_seen _ _ _ _ _ _ _ _ c.bits_for.ensures c.set_bits.ensures c.bits_of.ensures

pub returns-then-not-suits-clause-steps : goal.returns-then-not-suits-clause-steps
returns-then-not-suits-clause-steps g c = set_seen _ _ _ _ _ _ _ _ c.bits_for.ensures c.set_bits.ensures c.bits_of.ensures

pub returns-clause-steps : goal.returns-clause-steps
returns-clause-steps g c = set_seen _ _ _ _ _ _ _ _ c.bits_for.ensures c.set_bits.ensures c.bits_of.ensures

pub returns-in_default-bits_of-clause-err : goal.returns-in_default-bits_of-clause-err
returns-in_default-bits_of-clause-err g c =
    ((Seen None, c.args.temporary.now, [], _), _, one_more _ _ _ _ (one_more _ _ _ _ (no_more (g.N.Names.calls c.args.names.now)) c.bits_for.ensures) c.set_bits.ensures, refl, c.in_default-bits_of.ensures)

pub returns-then-not-suits-clause-err : goal.returns-then-not-suits-clause-err
returns-then-not-suits-clause-err g c =
    let old = g.N.Names.calls c.args.names.now in
    let on = one_more _ _ _ _ (one_more _ _ _ _ (no_more old) c.bits_for.ensures) c.set_bits.ensures in
    ((Seen (Some c.in-Some-bits_of.last), c.args.temporary.now, [], _), _, on, (refl, (c.in-Some.held, c.of-wanted.result, g.N.File.RawFile.calls c.file.result.now, old, no_more old, search rules, search rules)), c.in-Some-bits_of.ensures)

pub returns-clause-err : goal.returns-clause-err
returns-clause-err g c = grind (arith, common_steps)

pub returns-clause-failed : goal.returns-clause-failed
returns-clause-failed g c = grind (arith, common_steps)

pub returns-clause-images : goal.returns-clause-images
returns-clause-images g c =
    let first = c.sync_unwritable.ensures.images in
    let last = c.sync.ensures.images in
    record { no_other = λ b is. first.no_other b (last.no_other b is); none_lost = λ b is. last.none_lost b (first.none_lost b is) }

pub returns-clause-may : goal.returns-clause-may
returns-clause-may g c = grind (arith, common_steps)

pub returns-clause-renames : goal.returns-clause-renames
returns-clause-renames g c = grind (arith, common_steps)

pub returns-then-not-suits-clause-failed : goal.returns-then-not-suits-clause-failed
returns-then-not-suits-clause-failed g c = grind (arith, common_steps)

pub returns-then-not-suits-clause-may : goal.returns-then-not-suits-clause-may
returns-then-not-suits-clause-may g c = grind (arith, common_steps)
