use Rattle.cdb_form.proofs.Words.{arith, err_from_is_err_and, rules}
use Rattle.cdb_form.proofs.Sources.SourceLemmas.{removal_behind, leaves_past}
use Rattle.cdb_form.proofs.NativeTexts.KeyTexts.{key_fails, listed_behind}
use Rattle.cdb_form.proofs.NativeTexts.Stops.{removal_fails, lift_length, base_length, base_value}
use Rattle.cdb_form.proofs.text.source.Source.marked_key.Goals as goal

pub returns-clause-removes : goal.returns-clause-removes
returns-clause-removes g c =
    let a = c.in_ok-klen.ensures.read in
    let k = c.in_ok-field.ensures in
    removal_behind _ _ _ c.args.greatest _ _ a.0 _
    (rw k.long a.1) (omega (arith, c.in_ok-klen.ensures.fits, k.long)) k.are
    a.2 k.read (omega (arith, a.3, k.long, k.counted))

pub returns-clause-lists : goal.returns-clause-lists
returns-clause-lists g c =
    let a = c.in_ok-klen.ensures.read in
    let k = c.in_ok-field.ensures in
    listed_behind _ _ _ c.args.greatest _ _ a.0 _
    (rw k.long a.1) (omega (arith, c.in_ok-klen.ensures.fits, k.long)) k.are
    a.2 k.read (omega (arith, a.3, k.long, k.counted))

pub returns-in_err-klen-clause-fails_removing : goal.returns-in_err-klen-clause-fails_removing
returns-in_err-klen-clause-fails_removing g c = λ from e.
    let p = err_from_is_err_and c.from_residual.result c.from_residual.ensures.1 in
    rw (p.1, p.2) (removal_fails _ from _ _ _ _ _ (g.met.R.Feeds.one_rest _) e (λ F s. base_length F _ _ _ _ _ _ s c.in_err-klen.ensures.fails))

pub returns-in_err-klen-clause-fails_listing : goal.returns-in_err-klen-clause-fails_listing
returns-in_err-klen-clause-fails_listing g c = λ from e.
    let p = err_from_is_err_and c.from_residual.result c.from_residual.ensures.1 in
    rw (p.1, p.2) (key_fails _ from _ _ _ _ _ (g.met.R.Feeds.one_rest _) e (λ F s. base_length F _ _ _ _ _ _ s c.in_err-klen.ensures.fails))

pub returns-in_err-field-clause-fails_removing : goal.returns-in_err-field-clause-fails_removing
returns-in_err-field-clause-fails_removing g c = λ from e.
    let p = err_from_is_err_and c.from_residual-in_err-field.result c.from_residual-in_err-field.ensures.1 in
    let a = c.in_ok-klen.ensures.read in
    rw (p.1, p.2) (removal_fails _ from _ _ _ _ _ (g.met.R.Feeds.one_rest _) e (λ F s.
    lift_length F _ c.in_ok-klen.klen _ _ _ _ _ _ a.0 c.in_err-field.field-0.0 a.1 c.in_ok-klen.ensures.fits a.3 (omega (arith, c.in_err-field.ensures.later)) a.2
    (base_value F _ c.in_ok-klen.klen _ _ _ _ _ s c.in_err-field.ensures.fails)))

pub returns-in_err-field-clause-fails_listing : goal.returns-in_err-field-clause-fails_listing
returns-in_err-field-clause-fails_listing g c = λ from e.
    let p = err_from_is_err_and c.from_residual-in_err-field.result c.from_residual-in_err-field.ensures.1 in
    let a = c.in_ok-klen.ensures.read in
    rw (p.1, p.2) (key_fails _ from _ _ _ _ _ (g.met.R.Feeds.one_rest _) e (λ F s.
    lift_length F _ c.in_ok-klen.klen _ _ _ _ _ _ a.0 c.in_err-field.field-0.0 a.1 c.in_ok-klen.ensures.fits a.3 (omega (arith, c.in_err-field.ensures.later)) a.2
    (base_value F _ c.in_ok-klen.klen _ _ _ _ _ s c.in_err-field.ensures.fails)))

pub returns-in_err-field-clause-leaves : goal.returns-in_err-field-clause-leaves
returns-in_err-field-clause-leaves g c =
    let p = err_from_is_err_and c.from_residual-in_err-field.result c.from_residual-in_err-field.ensures.1 in
    let a = c.in_ok-klen.ensures.read in
    rw (p.1, p.2) (leaves_past g.R.Feeds.feed c.args.self.now c.number.new.self c.field.new.self a.0 58 _ a.2 a.3 c.in_ok-klen.ensures.spends
    c.in_err-field.ensures.leaves)

pub invariant_of-into : goal.invariant_of-into
invariant_of-into g c = omega arith

pub returns-clause-leaves : goal.returns-clause-leaves
returns-clause-leaves g c = omega arith

pub returns-clause-later : goal.returns-clause-later
returns-clause-later g c = search rules
