use Rattle.cdb_form.proofs.Words.{[], arith, common_steps, is_of, rules, true, ◌++◌, ◌∷◌, ◌≡◌}
use Rattle.cdb_form.proofs.MapTexts.MapReads.{run_more}
use Rattle.cdb_form.proofs.text.source.Source.pass.Goals as goal

pub loop-byte-preserved : goal.loop-byte-preserved
loop-byte-preserved g c =
    let e = c.in_ok-byte.ensures in
    let read = rw c.in-Some.is at e.bytes in
    let counted = rw c.in-Some.is at e.counted in
    let of_kind : is_of c.args.kind c.in-Some.byte ≡ true = grind arith in
    (c.loop-byte.invariant.0 ++ c.in-Some.byte ∷ [], run_more _ _ _ _ _ _ _ c.loop-byte.invariant.1 read counted e.fewer e.spends of_kind)

pub returns-then-not-has-clause-run : goal.returns-then-not-has-clause-run
returns-then-not-has-clause-run g c = grind (arith, common_steps)

pub returns-in_default-clause-leaves : goal.returns-in_default-clause-leaves
returns-in_default-clause-leaves g c = search rules
