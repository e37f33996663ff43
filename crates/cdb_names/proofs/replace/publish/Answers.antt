use Rattle.std.proofs.Common.{inl, inr, rules}
use Rattle.cdb_names.specs.declared.name_trace.NameCall.TheVariants.{Renamed, NotRenamed}
use Rattle.cdb_names.specs.Folder.{MayRemove}
use Rattle.cdb_names.proofs.Replacing.{no_step, step, cleared, synced, ready, sure}
use Rattle.cdb_names.proofs.Locking.{may_after}
use Rattle.cdb_names.proofs.Stops.{no_more, one_more}
use Rattle.cdb_names.proofs.replace.publish.Goals as goal

pub returns-in-Ok-clause-steps : goal.returns-in-Ok-clause-steps
returns-in-Ok-clause-steps g c =
    let file = g.N.File.RawFile.calls c.args.file in
    synced {mid = g.N.Names.calls c.rename.new.self} _ c.sync_folder.result (step _ (Renamed c.args.len, c.args.temporary.now, c.args.name.now, file) (no_step (g.N.Names.calls c.args.names.now)) c.in-Ok.ensures.ok (ready c.args.len file c.requires.settled (λ b is. is)) c.requires.ready) c.sync_folder.ensures

pub returns-in-Ok-clause-sure : goal.returns-in-Ok-clause-sure
returns-in-Ok-clause-sure g c =
    let file = g.N.File.RawFile.calls c.args.file in
    sure c.args.temporary.now c.args.len file (g.N.Names.calls c.args.names.now) (g.N.Names.calls c.rename.new.self) _ c.sync_folder.result (ready c.args.len file c.requires.settled (λ b is. is)) c.in-Ok.ensures.ok c.sync_folder.ensures

pub returns-in-Err-clause-steps : goal.returns-in-Err-clause-steps
returns-in-Err-clause-steps g c =
    let file = g.N.File.RawFile.calls c.args.file in
    let may : MayRemove c.args.temporary.now c.args.name.now (g.N.Names.calls c.args.names.now) = record { lock = inl c.requires.ready.lock; other = inr c.requires.ready.apart } in
    cleared {mid = g.N.Names.calls c.rename.new.self} _ (step _ (NotRenamed c.args.len _, c.args.temporary.now, c.args.name.now, file) (no_step (g.N.Names.calls c.args.names.now)) c.in-Err.ensures.err (ready c.args.len file c.requires.settled (λ b is. is)) c.requires.ready) (may_after _ _ _ _ _ _ _ c.in-Err.ensures.err may) c.remove_own.ensures

pub returns-in-Err-clause-cleared : goal.returns-in-Err-clause-cleared
returns-in-Err-clause-cleared g c =
    (g.N.Names.calls c.rename.new.self, one_more _ _ _ _ (no_more (g.N.Names.calls c.args.names.now)) c.in-Err.ensures.err, search rules)
