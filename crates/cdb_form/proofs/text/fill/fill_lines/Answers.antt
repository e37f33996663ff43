use Rattle.cdb_form.proofs.Words.{AreBytes, BeginsWithLine, IsRecord, ap, arith, drop, length, length-drop, pair_size, record_bytes, refl, subst, sym, take, ℕ, ◌++◌, ◌+◌, ◌-◌, ◌∙◌, ◌≡◌, ◌≤◌}
use borrow.Rule.Slice.PartMut.{mid_of}
use Rattle.cdb_form.specs.Format.{record_of}
use Rattle.cdb_form.specs.Views.Prefix.{LiesPlainly}
use Rattle.cdb_form.proofs.Bytes.ByteLemmas.{AreBytes-take}
use Rattle.cdb_form.proofs.Bytes.HeadLemmas.{rest_of}
use Rattle.cdb_form.proofs.Bytes.WordLemmas.{word_holds}
use Rattle.cdb_form.proofs.Filling.{filling_more}
use Rattle.cdb_form.proofs.Files.Standing.{AreBytes-drop}
use Rattle.cdb_form.proofs.text.fill.fill_lines.Goals as goal

pub loop-taken-preserved : goal.loop-taken-preserved
loop-taken-preserved g c =
    let w = g.L.Width.WORD in
    let text = c.args.text.now in
    let taken = c.loop-taken.taken in
    let end = c.loop-taken.end in
    let line = c.in-Some.line in
    let key = line.key.now in
    let value = line.value.now in
    let klen = length key in
    let vlen = length value in
    let r = record_of key value in
    let rest = drop taken text in
    let part = mid_of taken (length text - taken) text in
    let rest_is : part ≡ rest = rest_of taken (length text) text refl in
    let begins : BeginsWithLine rest line.len r = subst (λ t. BeginsWithLine t line.len r) rest_is c.in-Some.ensures.begins in
    let plain : LiesPlainly part line.len r = c.in-Some.ensures.plain in
    let are : AreBytes part = subst AreBytes (sym rest_is) (AreBytes-drop taken text (λ k. omega (arith, c.type_inv.text k))) in
    let is : IsRecord r = record {
      key = subst AreBytes plain.key (AreBytes-take klen part are);
      value = subst AreBytes plain.value (AreBytes-take vlen (drop (klen + 1) part) (AreBytes-drop (klen + 1) part are));
    } in
    let tail = mid_of (klen + 1) (length part - (klen + 1)) part in
    let tail_is : tail ≡ drop (klen + 1) part = rest_of (klen + 1) (length part) part refl in
    let record_is : record_bytes w (record_of (take klen part) (take vlen tail)) ≡ record_bytes w r =
    ap (λ t. record_bytes w (record_of t (take vlen tail))) plain.key ∙ ap (λ t. record_bytes w (record_of key t)) (ap (take vlen) tail_is ∙ plain.value) in
    let size : end + (c.pair_size-pair.result + klen + vlen) ≡ end + pair_size w + klen + vlen = omega (arith, c.pair_size-pair.ensures) in
    let written : take (end + (c.pair_size-pair.result + klen + vlen)) c.put_past.new.into ≡ take end c.loop-taken.into ++ record_bytes w r =
    ap (λ (n : ℕ). take n c.put_past.new.into) size ∙ c.put_past.ensures ∙ ap (λ t. take end c.loop-taken.into ++ t) record_is in
    let most : klen + vlen ≤ g.L.Width.TOP = omega (arith, c.min.ensures, c.if-limit-end.false, c.loop-taken.invariant.filling.from_on, word_holds w g.L.Width.TOP g.met.L.Width.four_or_eight g.met.L.Width.top_is) in
    record {
      filling = filling_more BeginsWithLine w g.L.Width.TOP text c.args.into.now c.loop-taken.into c.put_past.new.into c.args.held taken end c.loop-taken.count line.len _ _ r
          c.loop-taken.invariant.filling begins (omega (arith, plain.size)) refl (omega (arith, begins.within, length-drop taken text, plain.size)) is
          (record { key = omega (arith, most); value = omega (arith, most) })
          written (omega arith) (omega (arith, c.put_past.auto.into, c.if-limit-end.false)) c.put_past.auto.into;
      limited = omega (arith, c.if-limit-end.false);
    }
