use Rattle.cdb_make.proofs.Words.{AreSized, Err, ap, arith, held_first, held_kept, inl, kept_torn, length, refl, ◌+◌, ◌∙◌, ◌≤◌, ℕ}
use Rattle.cdb_form.proofs.Bytes.ByteLemmas.{AreBytes-append}
use Rattle.cdb_make.proofs.Admitting.{stays_then}
use Rattle.cdb_make.proofs.Bytes.Written.{length-begun_bytes}
use Rattle.cdb_make.proofs.Finishing.{end_behind, stays_whole}
use Rattle.cdb_make.proofs.Longs.{part_more}
use Rattle.cdb_make.proofs.Looking.{same_self}
use Rattle.cdb_make.proofs.Rolls.{follows_write, stays_behind, store_fails}
use Rattle.cdb_make.specs.Views.Long.{begun_bytes}
use Rattle.cdb_make.proofs.maker.Maker.write_long.Goals as goal

pub returns-in_err-write_at-clause-follows : goal.returns-in_err-write_at-clause-follows
returns-in_err-write_at-clause-follows g c =
    let m = c.args.self.now in
    let e = c.write_at.ensures in
    let p = c.requires.begun.4 in
    follows_write m _ refl refl (omega (arith, p.end, p.stays.same.end, end_behind m.roll)) e.torn e.room e.cause.later e.unwritten.later

pub returns-clause-follows : goal.returns-clause-follows
returns-clause-follows g c =
    let m = c.args.self.now in
    let e = c.write_at.ensures in
    let p = c.requires.begun.4 in
    follows_write m _ refl refl (omega (arith, p.end, p.stays.same.end, end_behind m.roll)) e.torn e.room e.cause.later e.unwritten.later

pub returns-in_err-write_at-clause-fails : goal.returns-in_err-write_at-clause-fails
returns-in_err-write_at-clause-fails g c = λ first key vlen got p.
    let m = c.args.self.now in
    let e = c.write_at.ensures in
    let h = c.in_err-write_at.ensures in
    let behind : m.roll.end ≤ c.args.long.now.end = omega (arith, p.end, p.stays.same.end) in
    let stays = stays_whole first _ p.was (stays_then first m _ p.stays (stays_behind m _ (same_self m.roll) refl refl refl refl behind e.torn)) in
    store_fails _ c.from_residual.result c.in_err-write_at.field-0.0 c.from_residual.ensures.1
    (λ is. (stays, h.memory_failures (ap Err is) ∙ p.fine))
    (λ is. (stays, record { failed = omega (arith, h.cause.failed (ap Err is), p.fine); unwritten = omega (arith, h.unwritten.failed (ap Err is), p.follows.unwritten) }))

pub returns-clause-ok : goal.returns-clause-ok
returns-clause-ok g c = λ first key vlen got p.
    let m = c.args.self.now in
    let long = c.args.long.now in
    let e = c.write_at.ensures in
    let h = c.in_ok-write_at.ensures in
    let sized : AreSized (g.S.Store.size m.store) (g.S.Store.image m.store) = record { each = g.met.S.Store.image_size m.store } in
    let behind : m.roll.end ≤ long.end = omega (arith, p.end, p.stays.same.end) in
    let n : ℕ = length (begun_bytes g.L.Width.WORD key vlen got) in
    let before : first.roll.end + n ≤ long.end = omega (arith, p.end, length-begun_bytes g.L.Width.WORD key vlen got) in
    part_more first m _ key vlen got c.args.piece.now long _ p (AreBytes-append got c.args.piece.now p.are.value (λ k. omega (arith, c.type_inv.piece k))) refl
    (stays_behind m _ (same_self m.roll) refl refl refl refl behind e.torn)
    (follows_write m _ refl refl (omega (arith, behind, end_behind m.roll)) e.torn e.room e.cause.later e.unwritten.later) h.ok_failures
    (held_kept (kept_torn first.roll.end n (inl before) e.torn) p.stored)
    (held_first p.inside sized h.ok) h.ok_size h.ok_written refl refl refl refl
