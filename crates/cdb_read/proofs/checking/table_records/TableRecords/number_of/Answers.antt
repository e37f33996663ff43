use Rattle.cdb_read.proofs.Words.{Err, IsStrictlyIncreasing, List, Ok, ap, arith, cases_eq, get_or, get_or_default, inl, inr, length, slot_pair, subst, sym, ℕ, ◌+◌, ◌<◌, ◌∙◌, ◌≡◌}
use Rattle.cdb_read.proofs.Checks.Buckets.{searched_among}
use Rattle.cdb_read.proofs.Checks.Entered.{record_nowhere, rising_apart}
use Rattle.cdb_read.proofs.checking.table_records.TableRecords.number_of.Goals as goal

pub returns-else-from-slot-clause-finds : goal.returns-else-from-slot-clause-finds
returns-else-from-slot-clause-finds c = λ rising.
    let s = c.args.self.now in
    let f = c.between-between.result.from in
    let t = c.between-between.result.to in
    let k = f + c.in-Ok.at in
    let same : c.deref-2.result.now ≡ s.places.items = c.deref-2.ensures.value in
    let up : IsStrictlyIncreasing c.deref-2.result.now = subst IsStrictlyIncreasing (sym same) rising in
    let long : length c.deref-2.result.now ≡ length c.deref.result.now = ap length (same ∙ sym c.deref.ensures.value) in
    let found = searched_among c.deref-2.result.now c.args.slot.place f t (Ok c.in-Ok.at) up c.between-between.ensures.within.0 (omega (arith, c.between-between.ensures.within.1, long)) c.in-Ok.ensures.position in
    let there : get_or s.places.items k 0 ≡ c.args.slot.place = ap (λ (v : List ℕ). get_or v k 0) (sym same) ∙ found.1 in
    let low : k < length s.places.items = subst (λ (v : List ℕ). k < length v) same found.0 in
    record_nowhere s.places.items s.hashes.items (slot_pair c.args.slot) s.paired (λ j l p h. elim (cases_eq j k) [
      | inl equal ↦ c.if-from-slot.false (c.from.ensures ∙ c.index.ensures ∙ get_or_default s.hashes.items k _ 0 (omega (arith, low, s.paired)) ∙ sym (ap (λ x. get_or s.hashes.items x 0) equal) ∙ h)
      | inr other ↦ rising_apart s.places.items j k rising other l low (p ∙ sym there)
    ])

pub returns-in-Err-clause-finds : goal.returns-in-Err-clause-finds
returns-in-Err-clause-finds c = λ rising.
    let s = c.args.self.now in
    let f = c.between-between.result.from in
    let t = c.between-between.result.to in
    let same : c.deref-2.result.now ≡ s.places.items = c.deref-2.ensures.value in
    let first : c.deref.result.now ≡ s.places.items = c.deref.ensures.value in
    let up : IsStrictlyIncreasing c.deref-2.result.now = subst IsStrictlyIncreasing (sym same) rising in
    let long : length c.deref-2.result.now ≡ length c.deref.result.now = ap length (same ∙ sym first) in
    let never = searched_among c.deref-2.result.now c.args.slot.place f t (Err c.in-Err.field-0) up c.between-between.ensures.within.0 (omega (arith, c.between-between.ensures.within.1, long)) c.in-Err.ensures.position in
    record_nowhere s.places.items s.hashes.items (slot_pair c.args.slot) s.paired (λ j l p h.
    (let inside = c.between-between.ensures.holds (subst IsStrictlyIncreasing (sym first) rising) j (subst (λ (v : List ℕ). j < length v) (sym first) l) (ap (λ (v : List ℕ). get_or v j 0) first ∙ p) in
    never j inside.0 inside.1 (ap (λ (v : List ℕ). get_or v j 0) same ∙ p)))
