use Rattle.std.proofs.Common.{[], refl}
use Rattle.cdb_names.specs.declared.answer.Answer.TheVariants.{Yes, Unknown}
use Rattle.cdb_names.specs.declared.name_trace.NameCall.TheVariants.{Own, Same}
use Rattle.cdb_names.proofs.Replacing.{no_step, step}
use Rattle.cdb_names.proofs.Stops.{no_more, one_more}
use Rattle.cdb_names.proofs.replace.is_own_apart.Goals as goal

pub returns-in-No-clause-steps : goal.returns-in-No-clause-steps
returns-in-No-clause-steps g c = step _ (Own c.has_file.result, c.args.temporary.now, [], []) (no_step _) c.has_file.ensures tt tt

pub returns-in-Unknown-clause-steps : goal.returns-in-Unknown-clause-steps
returns-in-Unknown-clause-steps g c = step _ (Own c.has_file.result, c.args.temporary.now, [], []) (no_step _) c.has_file.ensures tt tt

pub returns-in-No-is_file_of-clause-steps : goal.returns-in-No-is_file_of-clause-steps
returns-in-No-is_file_of-clause-steps g c = step _ (Same c.is_file_of.result, c.args.temporary.now, c.args.name.now, []) (step _ (Own c.has_file.result, c.args.temporary.now, [], []) (no_step _) c.has_file.ensures tt tt) c.is_file_of.ensures tt tt

pub returns-in-Yes-is_file_of-clause-steps : goal.returns-in-Yes-is_file_of-clause-steps
returns-in-Yes-is_file_of-clause-steps g c = step _ (Same c.is_file_of.result, c.args.temporary.now, c.args.name.now, []) (step _ (Own c.has_file.result, c.args.temporary.now, [], []) (no_step _) c.has_file.ensures tt tt) c.is_file_of.ensures tt tt

pub returns-in-Unknown-is_file_of-clause-steps : goal.returns-in-Unknown-is_file_of-clause-steps
returns-in-Unknown-is_file_of-clause-steps g c = step _ (Same c.is_file_of.result, c.args.temporary.now, c.args.name.now, []) (step _ (Own c.has_file.result, c.args.temporary.now, [], []) (no_step _) c.has_file.ensures tt tt) c.is_file_of.ensures tt tt

pub returns-in-Yes-is_file_of-clause-undone : goal.returns-in-Yes-is_file_of-clause-undone
returns-in-Yes-is_file_of-clause-undone g c not =
    ((Same Yes, c.args.temporary.now, c.args.name.now, []), _, one_more _ _ _ _ (no_more (g.N.Names.calls c.args.names.now)) c.has_file.ensures, (refl, refl), c.in-Yes-is_file_of.ensures)

pub returns-in-Unknown-is_file_of-clause-undone : goal.returns-in-Unknown-is_file_of-clause-undone
returns-in-Unknown-is_file_of-clause-undone g c not =
    ((Same Unknown, c.args.temporary.now, c.args.name.now, []), _, one_more _ _ _ _ (no_more (g.N.Names.calls c.args.names.now)) c.has_file.ensures, (refl, refl), c.in-Unknown-is_file_of.ensures)
