use Rattle.cdb_form.proofs.Words.{AreBytes, [], arith, common_steps, err_from_is_err_and, false, is_of, subst, sym, true, ◌++◌, ◌<◌, ◌∷◌, ◌≡◌}
use Rattle.cdb_form.proofs.Bytes.ByteLemmas.{AreBytes-append, AreBytes-push}
use Rattle.cdb_form.proofs.MapTexts.MapReads.{kept_at_hand, kept_more, read_fault_outside, run_at_hand, run_ended, run_failed, run_left, run_more, run_stopped}
use Rattle.cdb_form.proofs.text.source.Source.keep.Goals as goal

pub loop-self-preserved : goal.loop-self-preserved
loop-self-preserved g c =
    let e = c.in_ok-byte.ensures in
    let b = c.in-Some.byte in
    let so = c.loop-self.invariant in
    let m = c.in_ok-keep_at_hand.ensures.moved in
    let read = rw c.in-Some.is at e.bytes in
    let counted = rw c.in-Some.is at e.counted in
    let of_kind : is_of c.args.kind b ≡ true = grind arith in
    let byte : b < 256 = omega arith in
    let run = run_at_hand _ _ _ _ _ so.run.0 _ _ so.run.2 m in
    let kept = kept_at_hand _ _ so.run.0 m.bytes _ m.moved so.run.1 in
    let are = subst AreBytes (sym m.moved) (AreBytes-append _ m.bytes so.are m.are) in
    let items = c.in_ok-push-2.ensures.items in
    record {
      run = ((so.run.0 ++ m.bytes) ++ b ∷ [], kept_more _ _ (so.run.0 ++ m.bytes) _ b items kept, run_more _ _ _ _ _ _ _ run read counted e.fewer e.spends of_kind);
      are = AreBytes-push _ _ b items are byte;
    }

pub returns-in_default-clause-run : goal.returns-in_default-clause-run
returns-in_default-clause-run g c =
    let e = c.in_ok-byte.ensures in
    let so = c.loop-self.invariant in
    let m = c.in_ok-keep_at_hand.ensures.moved in
    let end = rw c.in_default.is at e.bytes in
    let counted = rw c.in_default.is at e.counted in
    let run = run_at_hand _ _ _ _ _ so.run.0 _ _ so.run.2 m in
    let kept = kept_at_hand _ _ so.run.0 m.bytes _ m.moved so.run.1 in
    (so.run.0 ++ m.bytes, kept, run_ended _ _ _ _ _ _ run end.0 end.1 counted e.spends)

pub returns-in_default-clause-are : goal.returns-in_default-clause-are
returns-in_default-clause-are g c =
    let so = c.loop-self.invariant in
    let m = c.in_ok-keep_at_hand.ensures.moved in
    subst AreBytes (sym m.moved) (AreBytes-append _ m.bytes so.are m.are)

pub returns-then-not-has-clause-are : goal.returns-then-not-has-clause-are
returns-then-not-has-clause-are g c =
    let so = c.loop-self.invariant in
    let m = c.in_ok-keep_at_hand.ensures.moved in
    subst AreBytes (sym m.moved) (AreBytes-append _ m.bytes so.are m.are)

pub returns-then-not-has-clause-run : goal.returns-then-not-has-clause-run
returns-then-not-has-clause-run g c =
    let e = c.in_ok-byte.ensures in
    let so = c.loop-self.invariant in
    let m = c.in_ok-keep_at_hand.ensures.moved in
    let read = rw c.in-Some.is at e.bytes in
    let counted = rw c.in-Some.is at e.counted in
    let other : is_of c.args.kind c.in-Some.byte ≡ false = grind arith in
    let run = run_at_hand _ _ _ _ _ so.run.0 _ _ so.run.2 m in
    let kept = kept_at_hand _ _ so.run.0 m.bytes _ m.moved so.run.1 in
    (so.run.0 ++ m.bytes, kept, run_stopped _ _ _ _ _ _ _ run read counted e.spends other)

pub returns-in_err-byte-clause-leaves : goal.returns-in_err-byte-clause-leaves
returns-in_err-byte-clause-leaves g c =
    let e = c.in_err-byte.ensures in
    let so = c.loop-self.invariant in
    let m = c.in_ok-keep_at_hand.ensures.moved in
    let p = err_from_is_err_and c.from_residual-in_err-byte.result c.from_residual-in_err-byte.ensures.1 in
    let run = run_at_hand _ _ _ _ _ so.run.0 _ _ so.run.2 m in
    rw (p.1, p.2) (run_failed _ _ _ _ c.next_byte.new.self (so.run.0 ++ m.bytes) c.in_err-byte.field-0.0 run e.kept e.same e.spends (read_fault_outside _ e.fails) e.told)

pub returns-in_err-push-2-clause-are : goal.returns-in_err-push-2-clause-are
returns-in_err-push-2-clause-are g c =
    let so = c.loop-self.invariant in
    let m = c.in_ok-keep_at_hand.ensures.moved in
    let same : c.push-in-loop-self.new.self.items ≡ c.keep_at_hand.new.into.items = grind arith in
    subst AreBytes (sym same) (subst AreBytes (sym m.moved) (AreBytes-append _ m.bytes so.are m.are))

pub returns-in_err-byte-clause-are : goal.returns-in_err-byte-clause-are
returns-in_err-byte-clause-are g c = grind (arith, common_steps)

pub returns-in_err-push-2-clause-leaves : goal.returns-in_err-push-2-clause-leaves
returns-in_err-push-2-clause-leaves g c =
    let e = c.in_ok-byte.ensures in
    let so = c.loop-self.invariant in
    let m = c.in_ok-keep_at_hand.ensures.moved in
    let read = rw c.in-Some.is at e.bytes in
    let counted = rw c.in-Some.is at e.counted in
    let of_kind : is_of c.args.kind c.in-Some.byte ≡ true = grind arith in
    let p = err_from_is_err_and c.from_residual-in_err-push-2.result c.from_residual-in_err-push-2.ensures.1 in
    let run = run_more _ _ _ _ _ _ _ (run_at_hand _ _ _ _ _ so.run.0 _ _ so.run.2 m) read counted e.fewer e.spends of_kind in
    rw (p.1, p.2) (run_left _ _ _ _ _ _ run (λ h. h) (record { spent = λ h. cc; failed = λ h. absurd (let no : ⊥ = cc in no) }))
