use Rattle.std.proofs.Common.{[], ◌∷◌, ◌∙◌, ap, refl, subst}
use Rattle.cdb_names.specs.declared.answer.Lock.TheVariants.{Held}
use Rattle.cdb_names.specs.declared.name_trace.NameCall.TheVariants.{Locked, Made, NotMade, Seen}
use Rattle.cdb_names.specs.Folder.{NameCalls}
use Rattle.cdb_names.specs.Replacing.{TakesLock}
use Rattle.cdb_names.specs.Wanted.{private_bits}
use Rattle.cdb_names.proofs.Locking.{made_undoable, may_look, may_remove}
use Rattle.cdb_names.proofs.Replacing.{no_step, step, go_on, cleared}
use Rattle.cdb_names.proofs.Stops.{free_goes_on, further, made_held, not_made, one_more, steps_go_on, unseen_undone, user_seen, was_undone}
use Rattle.cdb_names.proofs.replace.make_own.Goals as goal

pub returns-in-Err-clause-steps : goal.returns-in-Err-clause-steps
returns-in-Err-clause-steps g c = step _ (NotMade c.in-Err.fault, c.args.temporary.now, [], []) (no_step _) c.in-Err.ensures.err tt tt

pub returns-in-Err-clause-err : goal.returns-in-Err-clause-err
returns-in-Err-clause-err g c first free =
    rw c.open_fault.ensures (not_made _ c.args.temporary.now c.args.name.now first _ _ c.in-Err.fault (free_goes_on c.args.temporary.now first _ free) free c.in-Err.ensures.err)

pub returns-then-not-is_locked-clause-steps : goal.returns-then-not-is_locked-clause-steps
returns-then-not-is_locked-clause-steps g c =
    step _ (Locked Held, c.args.temporary.now, [], []) (step _ (Made private_bits, c.args.temporary.now, [], []) (no_step _) c.in-Ok.ensures.ok refl tt) (c.is_locked.ensures.held c.if-not-is_locked.true) tt tt

pub returns-then-not-is_locked-clause-err : goal.returns-then-not-is_locked-clause-err
returns-then-not-is_locked-clause-err g c first free =
    made_held c.args.temporary.now c.args.name.now first _ _ _ private_bits free c.in-Ok.ensures.ok (c.is_locked.ensures.held c.if-not-is_locked.true)

pub returns-then-not-is_own_apart-clause-steps : goal.returns-then-not-is_own_apart-clause-steps
returns-then-not-is_own_apart-clause-steps g c =
    let takes = c.is_locked.ensures.free c.if-not-is_locked.false in
    let may = c.is_own_apart.ensures.may (made_undoable c.args.temporary.now _ _ _ c.in-Ok.ensures.ok takes) in
    cleared _ (go_on (λ b is. is) (step _ (Locked takes.lock, c.args.temporary.now, [], []) (step _ (Made private_bits, c.args.temporary.now, [], []) (no_step _) c.in-Ok.ensures.ok refl tt) takes.are tt tt) c.is_own_apart.ensures.steps) (may_remove c.args.temporary.now c.args.name.now _ may) c.remove_own.ensures

pub returns-then-not-is_own_apart-clause-err : goal.returns-then-not-is_own_apart-clause-err
returns-then-not-is_own_apart-clause-err g c first free =
    let takes = c.is_locked.ensures.free c.if-not-is_locked.false in
    was_undone c.args.temporary.now c.args.name.now _ first _ _ _ c.in-Ok.ensures.file (one_more _ _ _ _ (one_more _ _ _ _ (free_goes_on c.args.temporary.now first _ free) c.in-Ok.ensures.ok) takes.are) (c.is_own_apart.ensures.undone c.if-not-is_own_apart.true) c.remove_own.ensures

pub returns-in_default-clause-steps : goal.returns-in_default-clause-steps
returns-in_default-clause-steps g c =
    let t = c.args.temporary.now in
    let n = c.args.name.now in
    let takes = c.is_locked.ensures.free c.if-not-is_locked.false in
    let may = may_look t n c.bits_of.result _ _ _ c.bits_of.ensures (may_remove t n _ (c.is_own_apart.ensures.may (made_undoable t _ _ _ c.in-Ok.ensures.ok takes))) in
    cleared _ (step _ (Seen c.bits_of.result, t, [], _) (go_on (λ b is. is) (step _ (Locked takes.lock, t, [], []) (step _ (Made private_bits, t, [], []) (no_step _) c.in-Ok.ensures.ok refl tt) takes.are tt tt) c.is_own_apart.ensures.steps) c.bits_of.ensures tt tt) may c.remove_own-in_default.ensures

pub returns-in_default-clause-err : goal.returns-in_default-clause-err
returns-in_default-clause-err g c first free =
    let t = c.args.temporary.now in
    let takes = c.is_locked.ensures.free c.if-not-is_locked.false in
    let on = further _ _ _ (one_more _ _ _ _ (one_more _ _ _ _ (free_goes_on t first _ free) c.in-Ok.ensures.ok) takes.are) (steps_go_on c.is_own_apart.ensures.steps) in
    unseen_undone t c.args.name.now c.bits_of.result _ first _ _ _ c.in_default.is c.in-Ok.ensures.file on c.bits_of.ensures c.remove_own-in_default.ensures

pub returns-clause-steps : goal.returns-clause-steps
returns-clause-steps g c =
    let takes = c.is_locked.ensures.free c.if-not-is_locked.false in
    step _ (Seen c.bits_of.result, c.args.temporary.now, [], _) (go_on (λ b is. is) (step _ (Locked takes.lock, c.args.temporary.now, [], []) (step _ (Made private_bits, c.args.temporary.now, [], []) (no_step _) c.in-Ok.ensures.ok refl tt) takes.are tt tt) c.is_own_apart.ensures.steps) c.bits_of.ensures tt tt

pub returns-clause-made : goal.returns-clause-made
returns-clause-made g c =
    let t = c.args.temporary.now in
    let takes = c.is_locked.ensures.free c.if-not-is_locked.false in
    record {
      locked = g.N.Names.calls c.is_locked.new.names;
      takes = subst (λ (cs : NameCalls). TakesLock t cs (g.N.Names.calls c.is_locked.new.names)) c.in-Ok.ensures.ok takes;
      seen = c.bits_of.result;
      file = g.N.File.RawFile.calls c.in-Ok.file;
      are = c.bits_of.ensures ∙ ap (λ cs. (Seen c.bits_of.result, t, [], g.N.File.RawFile.calls c.in-Ok.file) ∷ cs) (c.is_own_apart.ensures.seen c.if-not-is_own_apart.false);
    }

pub returns-clause-user : goal.returns-clause-user
returns-clause-user g c =
    user_seen c.args.temporary.now c.in-Some.shown c.bits_of.result _ _ _ c.in-Some.is c.in-Ok.ensures.file c.bits_of.ensures
