use Rattle.cdb_form.proofs.Words.{FailsEntry, [], arith, err_from_is_err_and, false, subst, sym, true, ℕ, ◌∙◌, ◌≡◌}
use Rattle.cdb_form.proofs.Sources.SourceLemmas.{part_seen}
use Rattle.cdb_form.specs.declared.text.fault.TextFault.TheVariants.{Ended}
use Rattle.cdb_form.proofs.NativeTexts.Stops.{ended_first, syntax_first, nothing_read}
use Rattle.cdb_form.proofs.text.source.Source.mark.Goals as goal

pub returns-in_err-byte-clause-fails : goal.returns-in_err-byte-clause-fails
returns-in_err-byte-clause-fails g c = λ greatest.
    let p = err_from_is_err_and c.from_residual.result c.from_residual.ensures.1 in
    let e = c.in_err-byte.ensures in
    rw (p.1, p.2) (part_seen (FailsEntry c.args.removals greatest c.args.self.now.taken) _ _ c.args.self.now.taken c.byte.new.self.taken [] c.in_err-byte.field-0.0 e.fails e.kept (omega (arith, e.same))
    (subst (λ (n : ℕ). FailsEntry c.args.removals greatest c.args.self.now.taken [] (Ended n)) (sym e.same) (nothing_read c.args.removals greatest c.args.self.now.taken)))

pub returns-in-None-clause-fails : goal.returns-in-None-clause-fails
returns-in-None-clause-fails g c = λ greatest.
    let e = rw c.in-None.is at c.in_ok-byte.ensures.bytes in
    ended_first c.args.removals greatest _ _ _ e.0 e.1

pub returns-in-Some-2-clause-fails : goal.returns-in-Some-2-clause-fails
returns-in-Some-2-clause-fails g c = λ greatest.
    let h = c.in-Some.field-0-test in
    syntax_first c.args.removals greatest _ c.in-Some.field-0 _ _ (rw c.in-Some.is at c.in_ok-byte.ensures.bytes) h.0.0.1 h.0.1 (λ e. h.1)

-- a minus if no removals are taken
pub returns-in-Some-clause-fails : goal.returns-in-Some-clause-fails
returns-in-Some-clause-fails g c = λ greatest.
    let minus : c.in-Some-eq45.field-0 ≡ 45 = omega arith in
    syntax_first c.args.removals greatest _ c.in-Some-eq45.field-0 _ _ (rw c.in-Some-eq45.is at c.in_ok-byte.ensures.bytes) (λ e. omega (arith, minus, e)) (λ e. omega (arith, minus, e))
    (λ e. let no : false ≡ true = sym c.if-removals.false ∙ e in absurd (let n : ⊥ = cc in n))
