use Rattle.std.proofs.Common.{ℕ, ap, arith, refl, take}
use Rattle.cdb_make.proofs.Finishing.{left_behind}
use Rattle.cdb_files.proofs.Finishing.{ended_made, ended_taken, one_more, out_of_memory, so_far_more, so_far_none, unbuilt}
use Rattle.cdb_files.proofs.examples.steps.build.Goals as goal

pub loop-step-init : goal.loop-step-init
loop-step-init g c = so_far_none {s = g.S.Store} {l = g.L.Width} c.args.store c.args.limit c.in-Ok-new.maker c.in-Ok.faults.items c.in-Ok.ensures.items c.in-Ok-new.ensures.begins.holds c.in-Ok-new.ensures.begins.limited c.in-Ok-new.ensures.lazy (omega (arith, c.in-Ok-new.ensures.begins.fine))

pub loop-step-preserved : goal.loop-step-preserved
loop-step-preserved g c =
    let so = c.loop-step.invariant in
    let i : ℕ = c.loop-step.step-index in
    let more = one_more c.args.steps.now i c.step-item.result (omega arith) c.step-item.is in
    let left = rw c.in-GoesOn.is at c.make_step.ensures _ so.holds in
    rw (more, c.in-Ok-push.ensures.items) (so_far_more {s = g.S.Store} {l = g.L.Width} c.args.store c.args.limit (take i c.args.steps.now) c.loop-step.faults.items c.step-item.result _ c.loop-step.maker c.in-GoesOn.kept so left)

pub returns-in-Err-clause-fails : goal.returns-in-Err-clause-fails
returns-in-Err-clause-fails g c = out_of_memory g.S.Store g.L.Width.WORD c.args.limit c.args.store c.args.steps.now c.left_unbuilt.result (ap (λ u. u.fault) c.left_unbuilt.ensures)

pub returns-in_default-clause-fails : goal.returns-in_default-clause-fails
returns-in_default-clause-fails g c = out_of_memory g.S.Store g.L.Width.WORD c.args.limit c.args.store c.args.steps.now c.left_unbuilt-in_default.result (ap (λ u. u.fault) c.left_unbuilt-in_default.ensures)

pub returns-in-Finished-clause-builds : goal.returns-in-Finished-clause-builds
returns-in-Finished-clause-builds g c =
    let so = c.loop-step.invariant in
    let end = ended_taken {s = g.S.Store} {l = g.L.Width} c.args.store c.args.limit c.loop-step.step-index c.args.steps.now c.loop-step.faults.items c.loop-step.maker c.step-item.result c.in-Finished.store g.met.L.Width.four_or_eight (omega arith) c.step-item.is so (rw c.in-Finished.is at c.make_step.ensures _ so.holds) in
    end.builds

pub returns-in-Finished-clause-file : goal.returns-in-Finished-clause-file
returns-in-Finished-clause-file g c =
    let so = c.loop-step.invariant in
    let end = ended_taken {s = g.S.Store} {l = g.L.Width} c.args.store c.args.limit c.loop-step.step-index c.args.steps.now c.loop-step.faults.items c.loop-step.maker c.step-item.result c.in-Finished.store g.met.L.Width.four_or_eight (omega arith) c.step-item.is so (rw c.in-Finished.is at c.make_step.ensures _ so.holds) in
    end.file

pub returns-in-Finished-clause-fits : goal.returns-in-Finished-clause-fits
returns-in-Finished-clause-fits g c =
    let so = c.loop-step.invariant in
    let end = ended_taken {s = g.S.Store} {l = g.L.Width} c.args.store c.args.limit c.loop-step.step-index c.args.steps.now c.loop-step.faults.items c.loop-step.maker c.step-item.result c.in-Finished.store g.met.L.Width.four_or_eight (omega arith) c.step-item.is so (rw c.in-Finished.is at c.make_step.ensures _ so.holds) in
    end.fits

pub returns-in-Finished-clause-size : goal.returns-in-Finished-clause-size
returns-in-Finished-clause-size g c =
    let end = rw c.in-Finished.is at c.make_step.ensures _ c.loop-step.invariant.holds in
    end.size

pub returns-in-Ok-finish-clause-builds : goal.returns-in-Ok-finish-clause-builds
returns-in-Ok-finish-clause-builds g c =
    let e = c.in-Ok-finish.ensures in
    let end = ended_made {s = g.S.Store} {l = g.L.Width} c.args.store c.args.limit c.loop-step.step-index c.args.steps.now c.loop-step.faults.items c.loop-step.maker c.in-Ok-finish.store g.met.L.Width.four_or_eight (omega arith) c.loop-step.invariant e.whole e.file e.size e.comes e.failures in
    end.builds

pub returns-in-Ok-finish-clause-file : goal.returns-in-Ok-finish-clause-file
returns-in-Ok-finish-clause-file g c =
    let e = c.in-Ok-finish.ensures in
    let end = ended_made {s = g.S.Store} {l = g.L.Width} c.args.store c.args.limit c.loop-step.step-index c.args.steps.now c.loop-step.faults.items c.loop-step.maker c.in-Ok-finish.store g.met.L.Width.four_or_eight (omega arith) c.loop-step.invariant e.whole e.file e.size e.comes e.failures in
    end.file

pub returns-in-Ok-finish-clause-fits : goal.returns-in-Ok-finish-clause-fits
returns-in-Ok-finish-clause-fits g c =
    let e = c.in-Ok-finish.ensures in
    let end = ended_made {s = g.S.Store} {l = g.L.Width} c.args.store c.args.limit c.loop-step.step-index c.args.steps.now c.loop-step.faults.items c.loop-step.maker c.in-Ok-finish.store g.met.L.Width.four_or_eight (omega arith) c.loop-step.invariant e.whole e.file e.size e.comes e.failures in
    end.fits

pub returns-in-Err-finish-clause-fails : goal.returns-in-Err-finish-clause-fails
returns-in-Err-finish-clause-fails g c =
    let u = c.in-Err-finish.unfinished in
    let e = c.in-Err-finish.ensures in
    let no = unbuilt {s = g.S.Store} {l = g.L.Width} c.args.store c.args.limit c.loop-step.step-index c.args.steps.now c.loop-step.faults.items c.loop-step.maker u.maker u.fault (omega arith) c.loop-step.invariant e.fails e.fails_comes in
    rw (c.left_unbuilt-in-Err-finish.ensures, c.into_store-in-Err-finish.ensures) (u.fault, refl, no)

pub returns-in-Ok-finish-clause-size : goal.returns-in-Ok-finish-clause-size
returns-in-Ok-finish-clause-size g c = omega (arith, c.in-Ok-finish.ensures.size, left_behind c.loop-step.maker.roll)
