use Rattle.cdb_form.proofs.Words.{arith, err_from_is_err_and}
use Rattle.cdb_form.proofs.Sources.SourceLemmas.{front_behind, leaves_past}
use Rattle.cdb_form.proofs.NativeTexts.Stops.{record_fails, lift_klen, lift_vlen, lift_key, base_klen, base_vlen, base_key, base_angle}
use Rattle.cdb_form.proofs.text.source.Source.record_front.Goals as goal

pub returns-clause-read : goal.returns-clause-read
returns-clause-read g c =
    let a = c.in_ok-klen.ensures.read in
    let b = c.in_ok-vlen.ensures.read in
    let k = c.in_ok-field.ensures in
    front_behind _ _ _ _ _ c.args.greatest _ _ a.0 b.0 _ _
    (rw k.long a.1) b.1 (omega (arith, c.in_ok-klen.ensures.fits, k.long)) c.in_ok-vlen.ensures.fits k.are
    a.2 b.2 k.read c.in_ok-expect_byte.ensures.read
    (omega (arith, a.3, b.3, k.long, k.counted, c.in_ok-expect_byte.ensures.counted))

pub returns-in_err-klen-clause-fails : goal.returns-in_err-klen-clause-fails
returns-in_err-klen-clause-fails g c = λ from removals e.
    let p = err_from_is_err_and c.from_residual.result c.from_residual.ensures.1 in
    rw (p.1, p.2) (record_fails removals _ from _ _ _ _ _ (g.met.R.Feeds.one_rest _) e (λ F s. base_klen F _ _ _ _ _ _ s c.in_err-klen.ensures.fails))

pub returns-in_err-vlen-clause-fails : goal.returns-in_err-vlen-clause-fails
returns-in_err-vlen-clause-fails g c = λ from removals e.
    let p = err_from_is_err_and c.from_residual-in_err-vlen.result c.from_residual-in_err-vlen.ensures.1 in
    let a = c.in_ok-klen.ensures.read in
    rw (p.1, p.2) (record_fails removals _ from _ _ _ _ _ (g.met.R.Feeds.one_rest _) e (λ F s.
    lift_klen F _ c.in_ok-klen.klen _ _ _ _ _ _ a.0 c.in_err-vlen.field-0.0 a.1 c.in_ok-klen.ensures.fits a.3 (omega (arith, c.in_err-vlen.ensures.later)) a.2
    (base_vlen F _ c.in_ok-klen.klen _ _ _ _ _ s c.in_err-vlen.ensures.fails)))

pub returns-in_err-vlen-clause-leaves : goal.returns-in_err-vlen-clause-leaves
returns-in_err-vlen-clause-leaves g c =
    let p = err_from_is_err_and c.from_residual-in_err-vlen.result c.from_residual-in_err-vlen.ensures.1 in
    let a = c.in_ok-klen.ensures.read in
    rw (p.1, p.2) (leaves_past g.R.Feeds.feed c.args.self.now c.number.new.self c.number-2.new.self a.0 44 _ a.2 a.3 c.in_ok-klen.ensures.spends
    c.in_err-vlen.ensures.leaves)

pub returns-in_err-field-clause-fails : goal.returns-in_err-field-clause-fails
returns-in_err-field-clause-fails g c = λ from removals e.
    let p = err_from_is_err_and c.from_residual-in_err-field.result c.from_residual-in_err-field.ensures.1 in
    let a = c.in_ok-klen.ensures.read in
    let b = c.in_ok-vlen.ensures.read in
    rw (p.1, p.2) (record_fails removals _ from _ _ _ _ _ (g.met.R.Feeds.one_rest _) e (λ F s.
    lift_klen F _ c.in_ok-klen.klen _ _ _ _ _ _ a.0 c.in_err-field.field-0.0 a.1 c.in_ok-klen.ensures.fits a.3 (omega (arith, c.in_ok-vlen.ensures.later, c.in_err-field.ensures.later)) a.2
    (lift_vlen F _ c.in_ok-klen.klen c.in_ok-vlen.vlen _ _ _ _ _ _ b.0 c.in_err-field.field-0.0 b.1 c.in_ok-vlen.ensures.fits b.3 (omega (arith, c.in_err-field.ensures.later)) b.2
    (base_key F _ c.in_ok-klen.klen c.in_ok-vlen.vlen _ _ _ _ _ s c.in_err-field.ensures.fails))))

pub returns-in_err-field-clause-leaves : goal.returns-in_err-field-clause-leaves
returns-in_err-field-clause-leaves g c =
    let p = err_from_is_err_and c.from_residual-in_err-field.result c.from_residual-in_err-field.ensures.1 in
    let a = c.in_ok-klen.ensures.read in
    let b = c.in_ok-vlen.ensures.read in
    rw (p.1, p.2) (leaves_past g.R.Feeds.feed c.args.self.now c.number.new.self c.field.new.self a.0 44 _ a.2 a.3 c.in_ok-klen.ensures.spends
    (leaves_past g.R.Feeds.feed c.number.new.self c.number-2.new.self c.field.new.self b.0 58 _ b.2 b.3 c.in_ok-vlen.ensures.spends
    c.in_err-field.ensures.leaves))

pub returns-in_err-expect_byte-clause-fails : goal.returns-in_err-expect_byte-clause-fails
returns-in_err-expect_byte-clause-fails g c = λ from removals e.
    let p = err_from_is_err_and c.from_residual-in_err-expect_byte.result c.from_residual-in_err-expect_byte.ensures.1 in
    let a = c.in_ok-klen.ensures.read in
    let b = c.in_ok-vlen.ensures.read in
    let k = c.in_ok-field.ensures in
    rw (p.1, p.2) (record_fails removals _ from _ _ _ _ _ (g.met.R.Feeds.one_rest _) e (λ F s.
    lift_klen F _ c.in_ok-klen.klen _ _ _ _ _ _ a.0 c.in_err-expect_byte.field-0.0 a.1 c.in_ok-klen.ensures.fits a.3 (omega (arith, c.in_ok-vlen.ensures.later, c.in_ok-field.ensures.later, c.in_err-expect_byte.ensures.later)) a.2
    (lift_vlen F _ c.in_ok-klen.klen c.in_ok-vlen.vlen _ _ _ _ _ _ b.0 c.in_err-expect_byte.field-0.0 b.1 c.in_ok-vlen.ensures.fits b.3 (omega (arith, c.in_ok-field.ensures.later, c.in_err-expect_byte.ensures.later)) b.2
    (lift_key F _ c.in_ok-klen.klen c.in_ok-vlen.vlen _ _ _ _ _ _ c.field.new.into.items c.in_err-expect_byte.field-0.0 k.long k.are k.counted (omega (arith, c.in_err-expect_byte.ensures.later)) k.read
    (base_angle F _ c.in_ok-vlen.vlen _ _ _ _ _ s c.in_err-expect_byte.ensures.fails)))))

pub returns-in_err-expect_byte-clause-leaves : goal.returns-in_err-expect_byte-clause-leaves
returns-in_err-expect_byte-clause-leaves g c =
    let p = err_from_is_err_and c.from_residual-in_err-expect_byte.result c.from_residual-in_err-expect_byte.ensures.1 in
    let a = c.in_ok-klen.ensures.read in
    let b = c.in_ok-vlen.ensures.read in
    let k = c.in_ok-field.ensures in
    rw (p.1, p.2) (leaves_past g.R.Feeds.feed c.args.self.now c.number.new.self c.expect_byte.new.self a.0 44 _ a.2 a.3 c.in_ok-klen.ensures.spends
    (leaves_past g.R.Feeds.feed c.number.new.self c.number-2.new.self c.expect_byte.new.self b.0 58 _ b.2 b.3 c.in_ok-vlen.ensures.spends
    (leaves_past g.R.Feeds.feed c.number-2.new.self c.field.new.self c.expect_byte.new.self c.field.new.into.items 45 _ k.read (omega (arith, k.counted, k.long)) k.spends
    c.in_err-expect_byte.ensures.leaves)))
