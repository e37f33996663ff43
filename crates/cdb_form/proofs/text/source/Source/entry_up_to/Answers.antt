use Rattle.cdb_form.proofs.Words.{FailsEntry, Putting, Removing, Spells, SpellsChange, SpellsRemoval, [], arith, err_from_is_err_and, refl, true, ◌∷◌}
use Rattle.cdb_form.specs.Views.LongValue.{SpellsFront}
use Rattle.cdb_form.proofs.Sources.SourceLemmas.{item_whole, leaves_behind, value_behind}
use Rattle.cdb_form.proofs.NativeTexts.LongValues.{value_unread}
use Rattle.cdb_form.proofs.NativeTexts.Stops.{mark_first}
use Rattle.cdb_form.proofs.text.source.Source.entry_up_to.Goals as goal

pub returns-in_err-vlen-in-Put-clause-fails : goal.returns-in_err-vlen-in-Put-clause-fails
returns-in_err-vlen-in-Put-clause-fails g c =
    let p = err_from_is_err_and c.from_residual-in_err-vlen-in-Put.result c.from_residual-in_err-vlen-in-Put.ensures.1 in
    let m = c.in_ok-kind.ensures in
    let h = c.in_err-vlen-in-Put.ensures in
    rw (p.1, p.2) (mark_first (FailsEntry c.args.removals c.args.greatest c.args.self.now.taken) 43 _ _ _ _ _ _ c.in_err-vlen-in-Put.field-0.0 (rw (c.in-Some.is, c.in-Put.is) at m.read) m.counted h.later (h.fails c.args.self.now.taken c.args.removals m.counted))

pub returns-in_err-vlen-in-Put-clause-leaves : goal.returns-in_err-vlen-in-Put-clause-leaves
returns-in_err-vlen-in-Put-clause-leaves g c =
    let p = err_from_is_err_and c.from_residual-in_err-vlen-in-Put.result c.from_residual-in_err-vlen-in-Put.ensures.1 in
    let m = c.in_ok-kind.ensures in
    rw (p.1, p.2) (leaves_behind _ _ _ _ (43 ∷ []) _ (rw (c.in-Some.is, c.in-Put.is) at m.read) m.counted m.spends c.in_err-vlen-in-Put.ensures.leaves)

pub returns-then-most-vlen-clause-read : goal.returns-then-most-vlen-clause-read
returns-then-most-vlen-clause-read g c =
    let m = c.in_ok-kind.ensures in
    item_whole SpellsFront SpellsFront 43 _ _ _ c.args.greatest _ _ _ _ _ (λ t s. s) (rw (c.in-Some.is, c.in-Put.is) at m.read) m.counted c.in_ok-vlen-in-Put.ensures.read

pub returns-in_err-field-in-Put-clause-fails : goal.returns-in_err-field-in-Put-clause-fails
returns-in_err-field-in-Put-clause-fails g c =
    let p = err_from_is_err_and c.from_residual-in_err-field-in-Put.result c.from_residual-in_err-field-in-Put.ensures.1 in
    let m = c.in_ok-kind.ensures in
    let f = c.in_ok-vlen-in-Put.ensures in
    let h = c.in_err-field-in-Put.ensures in
    let from = c.args.self.now.taken in
    rw (p.1, p.2) (mark_first (FailsEntry c.args.removals c.args.greatest c.args.self.now.taken) 43 _ _ _ _ _ _ c.in_err-field-in-Put.field-0.0 (rw (c.in-Some.is, c.in-Put.is) at m.read) m.counted (omega (arith, f.later, h.later))
    (value_unread c.args.removals c.args.greatest from _ _ _ _ _ _ _ _ c.in_err-field-in-Put.field-0.0 m.counted f.read h.later h.fails))

pub returns-in_err-field-in-Put-clause-leaves : goal.returns-in_err-field-in-Put-clause-leaves
returns-in_err-field-in-Put-clause-leaves g c =
    let p = err_from_is_err_and c.from_residual-in_err-field-in-Put.result c.from_residual-in_err-field-in-Put.ensures.1 in
    let m = c.in_ok-kind.ensures in
    let f = c.in_ok-vlen-in-Put.ensures in
    rw (p.1, p.2) (leaves_behind g.R.Feeds.feed c.args.self.now c.mark.new.self c.field.new.self (43 ∷ []) _ (rw (c.in-Some.is, c.in-Put.is) at m.read) m.counted m.spends
    (leaves_behind g.R.Feeds.feed c.mark.new.self c.record_front.new.self c.field.new.self f.read.text _ f.read.read f.read.counted f.spends c.in_err-field-in-Put.ensures.leaves))

pub returns-in_err-marked_key-in-Remove-clause-fails : goal.returns-in_err-marked_key-in-Remove-clause-fails
returns-in_err-marked_key-in-Remove-clause-fails g c =
    let p = err_from_is_err_and c.from_residual-in_err-marked_key-in-Remove.result c.from_residual-in_err-marked_key-in-Remove.ensures.1 in
    let m = c.in_ok-kind.ensures in
    let h = c.in_err-marked_key-in-Remove.ensures in
    let removals = m.removes (rw (c.in-Some.is, c.in-Remove.is) refl) in
    rw (p.1, p.2, removals) (mark_first (FailsEntry true c.args.greatest c.args.self.now.taken) 45 _ _ _ _ _ _ c.in_err-marked_key-in-Remove.field-0.0 (rw (c.in-Some.is, c.in-Remove.is) at m.read) m.counted h.later (h.fails_removing c.args.self.now.taken m.counted))

pub returns-in_err-marked_key-in-Remove-clause-leaves : goal.returns-in_err-marked_key-in-Remove-clause-leaves
returns-in_err-marked_key-in-Remove-clause-leaves g c =
    let p = err_from_is_err_and c.from_residual-in_err-marked_key-in-Remove.result c.from_residual-in_err-marked_key-in-Remove.ensures.1 in
    let m = c.in_ok-kind.ensures in
    rw (p.1, p.2) (leaves_behind _ _ _ _ (45 ∷ []) _ (rw (c.in-Some.is, c.in-Remove.is) at m.read) m.counted m.spends c.in_err-marked_key-in-Remove.ensures.leaves)

pub returns-in_ok-field-in-Put-clause-read : goal.returns-in_ok-field-in-Put-clause-read
returns-in_ok-field-in-Put-clause-read g c =
    let m = c.in_ok-kind.ensures in
    let v = c.in_ok-field-in-Put.ensures in
    rw c.in-Put.is (item_whole Spells SpellsChange 43 _ _ _ c.args.greatest _ _ _ _ (Putting _) (λ t s. s) (rw (c.in-Some.is, c.in-Put.is) at m.read) m.counted
    (value_behind _ _ _ (43 ∷ []) c.args.greatest _ _ _ _ _ _ c.in_ok-vlen-in-Put.ensures.read v.are v.long v.read v.counted))

pub returns-in_ok-marked_key-in-Remove-clause-read : goal.returns-in_ok-marked_key-in-Remove-clause-read
returns-in_ok-marked_key-in-Remove-clause-read g c =
    let m = c.in_ok-kind.ensures in
    rw c.in-Remove.is (item_whole SpellsRemoval SpellsChange 45 _ _ _ c.args.greatest _ _ _ _ (Removing _) (λ t s. s) (rw (c.in-Some.is, c.in-Remove.is) at m.read) m.counted c.in_ok-marked_key-in-Remove.ensures.removes)
