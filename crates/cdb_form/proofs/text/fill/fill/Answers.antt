use Rattle.cdb_form.proofs.Words.{AreBytes, BeginsWithBody, IsRecord, ap, arith, drop, drop-drop, length, length-drop, length-take-le, pair_size, record_bytes, refl, subst, sym, take, ℕ, ◌++◌, ◌+◌, ◌-◌, ◌∙◌, ◌≡◌}
use borrow.Rule.Slice.PartMut.{mid_of}
use Rattle.cdb_form.specs.Format.{record_of}
use Rattle.cdb_form.specs.Views.Prefix.{BeginsWithLengths, BeginsWithRecord}
use Rattle.cdb_form.proofs.Bytes.ByteLemmas.{AreBytes-take}
use Rattle.cdb_form.proofs.Bytes.HeadLemmas.{rest_of}
use Rattle.cdb_form.proofs.Filling.{filling_more}
use Rattle.cdb_form.proofs.Files.Standing.{AreBytes-drop}
use Rattle.cdb_form.proofs.NativeTexts.PrefixLemmas.{record_prefix}
use Rattle.cdb_form.proofs.text.fill.fill.Goals as goal

pub loop-taken-preserved : goal.loop-taken-preserved
loop-taken-preserved g c =
    let w = g.L.Width.WORD in
    let text = c.args.text.now in
    let taken = c.loop-taken.taken in
    let end = c.loop-taken.end in
    let l = c.short_lengths-lengths.result in
    let rest = drop taken text in
    let body = drop l.end rest in
    let r = record_of (take l.klen body) (take l.vlen (drop (l.klen + 2) body)) in
    let rest_is = rest_of taken (length text) text refl in
    let body_is = rest_of (taken + l.end) (length text) text refl ∙ sym (drop-drop l.end taken text) in
    let lengths : BeginsWithLengths c.GREATEST.result rest l = subst (λ t. BeginsWithLengths c.GREATEST.result t l) rest_is (c.short_lengths-lengths.ensures.begins (omega (arith, c.if-lengths-eq0.false))) in
    let narrow : BeginsWithLengths g.L.Width.GREATEST rest l = rw c.GREATEST.ensures at lengths in
    let marks : BeginsWithBody l.klen l.vlen body = subst (BeginsWithBody l.klen l.vlen) body_is (c.has_body.ensures (grind arith)) in
    let are : AreBytes body = AreBytes-drop l.end rest (AreBytes-drop taken text (λ k. omega (arith, c.type_inv.text k))) in
    let is : IsRecord r = record {
      key = AreBytes-take l.klen body are;
      value = AreBytes-take l.vlen (drop (l.klen + 2) body) (AreBytes-drop (l.klen + 2) body are);
    } in
    let begins = record_prefix g.L.Width.GREATEST rest l r narrow marks refl refl is in
    let klong : length (take l.klen body) ≡ l.klen = length-take-le l.klen body (omega (arith, marks.within)) in
    let vlong : length (take l.vlen (drop (l.klen + 2) body)) ≡ l.vlen = length-take-le l.vlen (drop (l.klen + 2) body) (omega (arith, marks.within, length-drop (l.klen + 2) body)) in
    let part = mid_of (taken + l.end) (length text - (taken + l.end)) text in
    let tail = mid_of (l.klen + 2) (length part - (l.klen + 2)) part in
    let tail_is : tail ≡ drop (l.klen + 2) body = rest_of (l.klen + 2) (length part) part refl ∙ ap (drop (l.klen + 2)) body_is in
    let record_is : record_bytes w (record_of (take l.klen part) (take l.vlen tail)) ≡ record_bytes w r =
    ap (λ t. record_bytes w (record_of (take l.klen t) (take l.vlen tail))) body_is ∙ ap (λ t. record_bytes w (record_of (take l.klen body) (take l.vlen t))) tail_is in
    let size : end + (c.pair_size-pair.result + l.klen + l.vlen) ≡ end + pair_size w + l.klen + l.vlen = omega (arith, c.pair_size-pair.ensures) in
    let written : take (end + (c.pair_size-pair.result + l.klen + l.vlen)) c.put_past.new.into ≡ take end c.loop-taken.into ++ record_bytes w r =
    ap (λ (n : ℕ). take n c.put_past.new.into) size ∙ c.put_past.ensures ∙ ap (λ t. take end c.loop-taken.into ++ t) record_is in
    filling_more (BeginsWithRecord g.L.Width.GREATEST) w g.L.Width.TOP text c.args.into.now c.loop-taken.into c.put_past.new.into c.args.held taken end c.loop-taken.count (l.end + (l.klen + l.vlen + 3)) _ _ r
    c.loop-taken.invariant begins (omega arith) (omega arith) (omega (arith, marks.within, length-drop l.end rest, length-drop taken text)) is
    (record { key = omega (arith, klong, narrow.key_fits, g.met.L.Width.greatest_fits.0); value = omega (arith, vlong, narrow.value_fits, g.met.L.Width.greatest_fits.0) })
    written (omega arith) (omega (arith, c.put_past.auto.into, c.if-into-end.false)) c.put_past.auto.into
