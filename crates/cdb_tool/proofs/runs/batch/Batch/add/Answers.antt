use Rattle.std.proofs.Common.{ap, inl, inr, ◌≡◌, ◌++◌, ◌∷◌, [], ◌∙◌, List, flat_map, refl, rules, subst, sym, take, ℕ}
use Rattle.std.specs.Vec.{with_items}
use Rattle.std.proofs.lemmas.List.{append-nil, places, with_items_is}
use Rattle.std.proofs.lemmas.List.Elements.{All-from_recursion, All-nil, All-push}
use Rattle.cdb_form.specs.Format.{IsRecord, KeyValue, record_bytes, record_of}
use Rattle.cdb_form.specs.Laws.Text.{LengthsFit}
use Rattle.cdb_form.specs.Views.Pairs.{key_value}
use Rattle.cdb_form.proofs.NativeTexts.RecordLemmas.{are_records}
use Rattle.cdb_tool.proofs.Batched.{batch_more}
use Rattle.cdb_tool.proofs.runs.batch.Batch.add.Goals as goal

pub returns-clause-added : goal.returns-clause-added
returns-clause-added g c was rs h = elim c.fill_one-held.ensures [
  | inl put ↦
      let w : ℕ = g.L.Width.WORD in
      let old = c.args.self.now in
      let into : List ℕ = c.fill_one-held.new.into in
      let r : KeyValue = key_value c.args.item.now in
      let items : (with_items old.bytes into).items ≡ into = with_items_is old.bytes into (search (rules, places)) in
      let same : record_of c.deref.result.now c.deref-2.result.now ≡ r = ap (λ k. record_of k c.deref-2.result.now) c.deref.ensures.value ∙ ap (λ v. record_of c.args.item.now.key.items v) c.deref-2.ensures.value in
      let written : take c.fill_one-held.result (with_items old.bytes into).items ≡ take old.held old.bytes.items ++ flat_map (record_bytes w) (r ∷ []) =
      ap (take c.fill_one-held.result) items
      ∙ put.1.written
      ∙ ap (λ v. take old.held v ++ record_bytes w (record_of c.deref.result.now c.deref-2.result.now)) c.deref_mut.ensures.value
      ∙ ap (λ v. take old.held old.bytes.items ++ record_bytes w v) same
      ∙ ap (λ v. take old.held old.bytes.items ++ v) (sym (append-nil (record_bytes w r))) in
      batch_more w g.L.Width.TOP old _ rs (r ∷ []) h written refl (All-from_recursion IsRecord (r ∷ []) (are_records (c.args.item.now ∷ []))) (All-push (LengthsFit g.L.Width.TOP) [] r (All-nil (LengthsFit g.L.Width.TOP)) (subst (LengthsFit g.L.Width.TOP) same put.0.fits))
  | inr none ↦ absurd (c.if-held-self.false none.1)
]
