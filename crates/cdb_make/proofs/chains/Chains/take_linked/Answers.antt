use Rattle.cdb_make.proofs.Words.{AreChained, Bool, IsIn, IsTakenFrom, List, Mark, ap, arith, bucket_of, get_or, get_or-set_other, get_or-set_same, get_or_default_zero, gone_of, is_gone, length, length-set, map-set, refl, set, slice_index, subst, sym, true, ℕ, ◌+◌, ◌-◌, ◌<◌, ◌∙◌, ◌≡◌, ◌≢◌}
use Rattle.cdb_make.specs.declared.mark.Mark.TheVariants.{Gone}
use Rattle.cdb_make.proofs.Marking.{found_or, taken_found, taken_same, taken_none, taken_step, free_of, onward}
use Rattle.cdb_make.proofs.chains.Chains.take_linked.Goals as goal

pub loop-at-init : goal.loop-at-init
loop-at-init c =
    let s = c.args.self.now in
    let ms : List Mark = c.args.marks.now in
    let at : ℕ = c.head-at.result in
    let top = c.head-at.ensures.last in
    record {
      chained = c.requires.chained;
      wide = refl;
      linked = refl;
      long = refl;
      taken = taken_none ms at (length s.before.items) (free_of (length s.heads.items) (bucket_of (length s.heads.items) c.args.hash) c.args.hash c.args.hashes.now ms ms (length s.before.items) at refl c.requires.found (λ k low high. refl) top);
      within = top.within;
      here = top.here;
      last = λ some e. c.head-at.ensures.head some;
      next = λ some lt. absurd (omega arith);
    }

pub loop-at-preserved : goal.loop-at-preserved
loop-at-preserved c =
    let inv = c.loop-at.invariant in
    let n : ℕ = c.loop-at.at - 1 in
    let up : n + 1 ≡ c.loop-at.at = omega (arith, c.loop-at-test.true) in
    let lt : n < length c.loop-at.self.before.items = omega (arith, c.loop-at-test.true, inv.within) in
    let is : c.index.result.now ≡ slice_index c.loop-at.self.before.items n = c.index.ensures ∙ get_or_default_zero c.loop-at.self.before.items n c.index.result.now lt in
    let here = inv.here c.loop-at-test.true in
    let on = onward c.loop-at.self.heads.items c.loop-at.self.before.items c.args.hashes.now c.args.marks.now c.loop-at.marks c.args.hash c.loop-at.at (length c.args.self.now.before.items) c.index.result.now inv.chained c.requires.found inv.taken c.loop-at-test.true inv.within here is in
    record {
      chained = inv.chained;
      wide = inv.wide;
      linked = inv.linked;
      long = inv.long;
      taken = taken_step c.args.marks.now c.loop-at.marks c.loop-at.marks n c.index.result.now (length c.args.self.now.before.items) on.0.within (omega (arith, inv.linked)) (λ k apart. refl)
          (sym (taken_same (get_or c.loop-at.marks n Gone) (sym (found_or c.loop-at.marks n) ∙ sym c.is_found_at.ensures ∙ c.if-is_found_at.false)))
          on.1 (subst (λ (m : ℕ). IsTakenFrom m (length c.args.self.now.before.items) c.args.marks.now c.loop-at.marks) (sym up) inv.taken);
      within = omega (arith, on.0.within, inv.within);
      here = on.0.here;
      last = λ some e. absurd (omega (arith, c.loop-at-test.true));
      next = λ some lt₁. (omega (arith, inv.within), here.stays, sym is);
    }

pub loop-at-preserved-then-is_found_at : goal.loop-at-preserved-then-is_found_at
loop-at-preserved-then-is_found_at c =
    let inv = c.loop-at.invariant in
    let d = c.drop_entry.ensures in
    let hs : List ℕ = c.args.hashes.now in
    let ms : List Mark = c.loop-at.marks in
    let n : ℕ = c.loop-at.at - 1 in
    let new : List Mark = set ms n Gone in
    let up : n + 1 ≡ c.loop-at.at = omega (arith, c.loop-at-test.true) in
    let count : ℕ = length c.loop-at.self.heads.items in
    let b : ℕ = bucket_of count c.args.hash in
    let lt : n < length c.loop-at.self.before.items = omega (arith, c.loop-at-test.true, inv.within) in
    let in_marks : n < length ms = omega (arith, lt, inv.chained.within, inv.long, c.requires.long) in
    let is : c.index.result.now ≡ slice_index c.loop-at.self.before.items n = c.index.ensures ∙ get_or_default_zero c.loop-at.self.before.items n c.index.result.now lt in
    let here = inv.here c.loop-at-test.true in
    let on = onward c.loop-at.self.heads.items c.loop-at.self.before.items c.args.hashes.now c.args.marks.now c.loop-at.marks c.args.hash c.loop-at.at (length c.args.self.now.before.items) c.index.result.now inv.chained c.requires.found inv.taken c.loop-at-test.true inv.within here is in
    let gone : gone_of new ≡ set (gone_of ms) n true = map-set is_gone ms n Gone in
    let other : (k : ℕ) → k ≢ n → get_or (gone_of new) k true ≡ get_or (gone_of ms) k true = λ k apart. ap (λ (v : List Bool). get_or v k true) gone ∙ get_or-set_other (gone_of ms) n k true true apart in
    record {
      chained = subst (AreChained c.drop_entry.new.self.heads.items c.drop_entry.new.self.before.items hs) (sym gone) d.chained;
      wide = d.wide ∙ inv.wide;
      linked = d.long ∙ inv.linked;
      long = length-set ms n Gone ∙ inv.long;
      taken = taken_step c.args.marks.now ms new n c.index.result.now (length c.args.self.now.before.items) on.0.within (omega (arith, inv.linked)) (λ k apart. get_or-set_other ms n k Gone Gone apart)
          (get_or-set_same ms n Gone Gone in_marks ∙ taken_found (get_or ms n Gone) (sym (found_or ms n) ∙ sym c.is_found_at.ensures ∙ c.if-is_found_at.true))
          on.1 (subst (λ (m : ℕ). IsTakenFrom m (length c.args.self.now.before.items) c.args.marks.now ms) (sym up) inv.taken);
      within = omega (arith, on.0.within, inv.within, d.long);
      here = λ some.
          let q = on.0.here some in
          subst (λ (m : ℕ). IsIn m (bucket_of m c.args.hash) hs (gone_of new) (c.index.result.now - 1)) (sym d.wide)
          (record { bucket = q.bucket; stays = other (c.index.result.now - 1) (λ e. omega (arith, on.0.within)) ∙ q.stays });
      last = λ some e. ap (λ (m : ℕ). slice_index c.drop_entry.new.self.heads.items (bucket_of m c.args.hash)) d.wide ∙ ap (slice_index c.drop_entry.new.self.heads.items) (sym here.bucket) ∙ d.head e ∙ sym is;
      next = λ some lt₁.
          let q = inv.next c.loop-at-test.true lt₁ in
          let step = inv.chained.steps (c.loop-at.newer - 1) (omega (arith, q.0)) q.1 in
          (omega (arith, q.0, d.long), other (c.loop-at.newer - 1) (λ e. omega (arith, q.2, step.within)) ∙ q.1, d.next lt₁ ∙ sym is);
    }
