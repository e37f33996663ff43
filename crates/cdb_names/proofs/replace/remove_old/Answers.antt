use Rattle.std.proofs.Common.{[], inr}
use Rattle.cdb_names.specs.declared.answer.Lock.TheVariants.{Held}
use Rattle.cdb_names.specs.declared.name_trace.NameCall.TheVariants.{Locked, NotOpened, Opened}
use Rattle.cdb_names.proofs.Locking.{old_removable}
use Rattle.cdb_names.proofs.Replacing.{no_step, step, cleared}
use Rattle.cdb_names.proofs.Stops.{is_held, no_more, not_opened, one_more}
use Rattle.cdb_names.proofs.replace.remove_old.Goals as goal

pub returns-in-Err-clause-steps : goal.returns-in-Err-clause-steps
returns-in-Err-clause-steps g c = step _ (NotOpened c.in-Err.fault, c.args.temporary.now, [], []) (no_step _) c.in-Err.ensures.err tt tt

pub returns-in-Err-clause-err : goal.returns-in-Err-clause-err
returns-in-Err-clause-err g c = rw c.open_fault.ensures (not_opened _ c.args.temporary.now c.args.name.now _ _ c.in-Err.fault c.in-Err.ensures.err)

pub returns-then-not-is_locked-clause-steps : goal.returns-then-not-is_locked-clause-steps
returns-then-not-is_locked-clause-steps g c =
    step _ (Locked Held, c.args.temporary.now, [], []) (step _ (Opened, c.args.temporary.now, [], []) (no_step _) c.in-Ok.ensures.ok tt tt) (c.is_locked.ensures.held c.if-not-is_locked.true) tt tt

pub returns-then-not-is_locked-clause-err : goal.returns-then-not-is_locked-clause-err
returns-then-not-is_locked-clause-err g c = is_held c.args.temporary.now c.args.name.now (g.N.Names.calls c.args.names.now) _ _ c.in-Ok.ensures.ok (c.is_locked.ensures.held c.if-not-is_locked.true)

pub returns-clause-steps : goal.returns-clause-steps
returns-clause-steps g c =
    let takes = c.is_locked.ensures.free c.if-not-is_locked.false in
    cleared _ (step _ (Locked takes.lock, c.args.temporary.now, [], []) (step _ (Opened, c.args.temporary.now, [], []) (no_step _) c.in-Ok.ensures.ok tt tt) takes.are tt tt) (old_removable c.args.temporary.now c.args.name.now _ _ _ c.requires.seen c.in-Ok.ensures.ok takes) c.remove_own.ensures

pub returns-clause-free : goal.returns-clause-free
returns-clause-free g c =
    (_, one_more _ _ _ _ (one_more _ _ _ _ (no_more (g.N.Names.calls c.args.names.now)) c.in-Ok.ensures.ok) (c.is_locked.ensures.free c.if-not-is_locked.false).are, inr (_, c.remove_own.ensures))
