use Rattle.cdb_form.proofs.Words.{FailsItem, SpellsKey, [], arith, common_steps, err_from_is_err_and, subst, sym, ℕ, ◌≡◌}
use Rattle.cdb_form.proofs.Sources.SourceLemmas.{part_seen, leaves_past}
use Rattle.cdb_form.specs.declared.text.fault.TextFault.TheVariants.{Ended}
use Rattle.cdb_form.proofs.NativeTexts.KeyTexts.{key_ended, key_syntax, no_key_read}
use Rattle.cdb_form.proofs.NativeTexts.Stops.{mark_first}
use Rattle.cdb_form.proofs.text.source.Source.list_entry.Goals as goal

pub returns-in_err-byte-clause-fails : goal.returns-in_err-byte-clause-fails
returns-in_err-byte-clause-fails g c =
    let p = err_from_is_err_and c.from_residual.result c.from_residual.ensures.1 in
    let e = c.in_err-byte.ensures in
    rw (p.1, p.2) (part_seen (FailsItem SpellsKey c.args.greatest c.args.self.now.taken) _ _ c.args.self.now.taken c.byte.new.self.taken [] c.in_err-byte.field-0.0 e.fails e.kept (omega (arith, e.same))
    (subst (λ (n : ℕ). FailsItem SpellsKey c.args.greatest c.args.self.now.taken [] (Ended n)) (sym e.same) (no_key_read c.args.greatest c.args.self.now.taken)))

pub returns-in_err-marked_key-in-Some-eq43-clause-fails : goal.returns-in_err-marked_key-in-Some-eq43-clause-fails
returns-in_err-marked_key-in-Some-eq43-clause-fails g c =
    let p = err_from_is_err_and c.from_residual-in_err-marked_key-in-Some-eq43.result c.from_residual-in_err-marked_key-in-Some-eq43.ensures.1 in
    let plus : c.in-Some-eq43.field-0 ≡ 43 = omega arith in
    let counted = rw c.in-Some-eq43.is at c.in_ok-byte.ensures.counted in
    let h = c.in_err-marked_key-in-Some-eq43.ensures in
    rw (p.1, p.2) (mark_first (FailsItem SpellsKey c.args.greatest c.args.self.now.taken) 43 _ _ _ _ _ _ c.in_err-marked_key-in-Some-eq43.field-0.0 (rw (c.in-Some-eq43.is, plus) at c.in_ok-byte.ensures.bytes) counted h.later (h.fails_listing c.args.self.now.taken counted))

pub returns-in_err-marked_key-in-Some-eq43-clause-leaves : goal.returns-in_err-marked_key-in-Some-eq43-clause-leaves
returns-in_err-marked_key-in-Some-eq43-clause-leaves g c =
    let p = err_from_is_err_and c.from_residual-in_err-marked_key-in-Some-eq43.result c.from_residual-in_err-marked_key-in-Some-eq43.ensures.1 in
    let plus : c.in-Some-eq43.field-0 ≡ 43 = omega arith in
    let counted = rw c.in-Some-eq43.is at c.in_ok-byte.ensures.counted in
    rw (p.1, p.2) (leaves_past _ _ _ _ [] 43 _ (rw (c.in-Some-eq43.is, plus) at c.in_ok-byte.ensures.bytes) counted (omega (arith, counted, c.in_ok-byte.ensures.spends)) c.in_err-marked_key-in-Some-eq43.ensures.leaves)

pub returns-in-None-clause-fails : goal.returns-in-None-clause-fails
returns-in-None-clause-fails g c = let e = rw c.in-None.is at c.in_ok-byte.ensures.bytes in key_ended _ _ _ _ e.0 e.1

pub returns-in-Some-clause-fails : goal.returns-in-Some-clause-fails
returns-in-Some-clause-fails g c =
    let h = c.in-Some.field-0-test in
    key_syntax _ _ c.in-Some.field-0 _ _ (rw c.in-Some.is at c.in_ok-byte.ensures.bytes) h.0.1 h.1

pub returns-in_ok-marked_key-in-Some-eq43-clause-read : goal.returns-in_ok-marked_key-in-Some-eq43-clause-read
returns-in_ok-marked_key-in-Some-eq43-clause-read g c = grind (arith, common_steps)
