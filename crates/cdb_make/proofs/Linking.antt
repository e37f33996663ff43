-- Chains of entries: one entry more, one less, and a search.
use Rattle.cdb_make.proofs.Words.{AreChained, Bool, IsIn, IsLast, List, Reaches, [], ap, arith, bucket_of, cases_eq, cases_lt, false, get_or, inl, inr, length, set, subst, sym, take, true, ℕ, ◌++◌, ◌+◌, ◌-◌, ◌<◌, ◌∙◌, ◌∷◌, ◌≡◌, ◌≤◌}
use Rattle.std.specs.Prelude.{slice_index, ◌≢◌}
use Rattle.std.proofs.lemmas.List.{get_or-set_same, get_or-set_other, get_or_append_left, get_or_push, get_or-take, get_or_past, length-set, length_push, length-take-le}

last_grown : (P : ℕ → Type 0) (end n : ℕ) → (P end → ⊥) → IsLast P end n → IsLast P (end + 1) n
last_grown P end n other h = record {
  within = omega (arith, h.within);
  here = h.here;
  none = λ k low high p. elim (cases_eq k end) [ inl e ↦ other (subst P e p) | inr apart ↦ h.none k low (omega arith) p ];
}

last_here : (P : ℕ → Type 0) (end : ℕ) → P end → IsLast P (end + 1) (end + 1)
last_here P end p = record {
  within = omega arith;
  here = λ some. (let e : end + 1 - 1 ≡ end = omega arith in subst P (sym e) p);
  none = λ k low high q. absurd (omega arith);
}

last_shrunk : (P : ℕ → Type 0) (end n : ℕ) → (P end → ⊥) → IsLast P (end + 1) n → IsLast P end n
last_shrunk P end n other h = record {
  within = elim (cases_eq n (end + 1)) [
    | inl e ↦ absurd (other (let f : n - 1 ≡ end = omega arith in subst P f (h.here (omega arith))))
    | inr apart ↦ omega (arith, h.within)
  ];
  here = h.here;
  none = λ k low high p. h.none k low (omega arith) p;
}

-- ---- one entry more

pub linked : (heads before hs : List ℕ) (ms : List Bool) (b n x : ℕ) → n ≡ length before → length before < length hs → b < length heads → b ≡ bucket_of (length heads) (slice_index hs n) → x ≡ slice_index heads b → get_or ms n true ≡ false
    → AreChained heads before hs ms → AreChained (set heads b (n + 1)) (before ++ x ∷ []) hs ms
linked heads before hs ms b n x at some in_heads here is stays h =
    let count : ℕ = length heads in
    let new : List ℕ = set heads b (n + 1) in
    let same : length new ≡ count = length-set heads b (n + 1) in
    let long : length (before ++ x ∷ []) ≡ n + 1 = length_push before x ∙ ap (λ (v : ℕ). v + 1) (sym at) in
    record {
      within = omega (arith, long);
      ends = λ a lt.
          let goes : IsLast (IsIn count a hs ms) (n + 1) (slice_index new a) = elim (cases_eq a b) [
            | inl e ↦
                let v : slice_index new a ≡ n + 1 = ap (slice_index new) e ∙ get_or-set_same heads b (n + 1) 0 in_heads in
                subst (IsLast (IsIn count a hs ms) (n + 1)) (sym v) (last_here (IsIn count a hs ms) n (record { bucket = sym here ∙ sym e; stays = stays }))
            | inr apart ↦
                let v : slice_index new a ≡ slice_index heads a = get_or-set_other heads b a (n + 1) 0 apart in
                let old : IsLast (IsIn count a hs ms) n (slice_index heads a) = subst (λ (m : ℕ). IsLast (IsIn count a hs ms) m (slice_index heads a)) (sym at) (h.ends a (omega arith)) in
                subst (IsLast (IsIn count a hs ms) (n + 1)) (sym v) (last_grown (IsIn count a hs ms) n (slice_index heads a) (λ q. apart (sym q.bucket ∙ sym here)) old)
          ] in
          subst (λ (m : ℕ). IsLast (IsIn m a hs ms) (length (before ++ x ∷ [])) (slice_index new a)) (sym same)
          (subst (λ (m : ℕ). IsLast (IsIn count a hs ms) m (slice_index new a)) (sym long) goes);
      steps = λ k lt live.
          let c : ℕ = bucket_of count (slice_index hs k) in
          let goes : IsLast (IsIn count c hs ms) k (slice_index (before ++ x ∷ []) k) = elim (cases_eq k n) [
            | inl e ↦
                let v : slice_index (before ++ x ∷ []) k ≡ slice_index heads b = get_or_push before x 0 k (omega arith) ∙ is in
                let old : IsLast (IsIn count b hs ms) k (slice_index heads b) = subst (λ (m : ℕ). IsLast (IsIn count b hs ms) m (slice_index heads b)) (let f : length before ≡ k = omega arith in f) (h.ends b in_heads) in
                let f : b ≡ c = here ∙ ap (λ (m : ℕ). bucket_of count (slice_index hs m)) (sym e) in
                subst (IsLast (IsIn count c hs ms) k) (sym v) (subst (λ (m : ℕ). IsLast (IsIn count m hs ms) k (slice_index heads b)) f old)
            | inr apart ↦
                let low : k < length before = omega (arith, long) in
                let v : slice_index (before ++ x ∷ []) k ≡ slice_index before k = get_or_append_left before (x ∷ []) 0 k low in
                subst (IsLast (IsIn count c hs ms) k) (sym v) (h.steps k low live)
          ] in
          subst (λ (m : ℕ). IsLast (IsIn m (bucket_of m (slice_index hs k)) hs ms) k (slice_index (before ++ x ∷ []) k)) (sym same) goes;
    }

-- one with a mark
pub linked_gone : (heads before hs : List ℕ) (ms : List Bool) (n x : ℕ) → n ≡ length before → length before < length hs → get_or ms n true ≡ true → AreChained heads before hs ms → AreChained heads (before ++ x ∷ []) hs ms
linked_gone heads before hs ms n x at some gone h =
    let count : ℕ = length heads in
    let long : length (before ++ x ∷ []) ≡ n + 1 = length_push before x ∙ ap (λ (v : ℕ). v + 1) (sym at) in
    record {
      within = omega (arith, long);
      ends = λ a lt.
          let old : IsLast (IsIn count a hs ms) n (slice_index heads a) = subst (λ (m : ℕ). IsLast (IsIn count a hs ms) m (slice_index heads a)) (sym at) (h.ends a lt) in
          subst (λ (m : ℕ). IsLast (IsIn count a hs ms) m (slice_index heads a)) (sym long)
          (last_grown (IsIn count a hs ms) n (slice_index heads a) (λ q. (let t : true ≡ false = sym gone ∙ q.stays in cc)) old);
      steps = λ k lt live. elim (cases_eq k n) [
        | inl e ↦ absurd (let t : true ≡ false = sym gone ∙ ap (λ (m : ℕ). get_or ms m true) (sym e) ∙ live in cc)
        | inr apart ↦
            let low : k < length before = omega (arith, long) in
            let v : slice_index (before ++ x ∷ []) k ≡ slice_index before k = get_or_append_left before (x ∷ []) 0 k low in
            subst (IsLast (IsIn count (bucket_of count (slice_index hs k)) hs ms) k) (sym v) (h.steps k low live)
      ];
    }

-- ---- the last entry less

pub unlinked : (heads before hs : List ℕ) (ms : List Bool) (b n x : ℕ) → n + 1 ≡ length before → b < length heads → b ≡ bucket_of (length heads) (slice_index hs n) → x ≡ slice_index before n → get_or ms n true ≡ false
    → AreChained heads before hs ms → AreChained (set heads b x) (take n before) hs ms
unlinked heads before hs ms b n x at in_heads here is stays h =
    let count : ℕ = length heads in
    let new : List ℕ = set heads b x in
    let same : length new ≡ count = length-set heads b x in
    let long : length (take n before) ≡ n = length-take-le n before (omega arith) in
    record {
      within = omega (arith, long, h.within);
      ends = λ a lt.
          let goes : IsLast (IsIn count a hs ms) n (slice_index new a) = elim (cases_eq a b) [
            | inl e ↦
                let v : slice_index new a ≡ slice_index before n = ap (slice_index new) e ∙ get_or-set_same heads b x 0 in_heads ∙ is in
                let f : bucket_of count (slice_index hs n) ≡ a = sym here ∙ sym e in
                subst (IsLast (IsIn count a hs ms) n) (sym v) (subst (λ (m : ℕ). IsLast (IsIn count m hs ms) n (slice_index before n)) f (h.steps n (omega arith) stays))
            | inr apart ↦
                let v : slice_index new a ≡ slice_index heads a = get_or-set_other heads b a x 0 apart in
                let old : IsLast (IsIn count a hs ms) (n + 1) (slice_index heads a) = subst (λ (m : ℕ). IsLast (IsIn count a hs ms) m (slice_index heads a)) (sym at) (h.ends a (omega arith)) in
                subst (IsLast (IsIn count a hs ms) n) (sym v) (last_shrunk (IsIn count a hs ms) n (slice_index heads a) (λ q. apart (sym q.bucket ∙ sym here)) old)
          ] in
          subst (λ (m : ℕ). IsLast (IsIn m a hs ms) (length (take n before)) (slice_index new a)) (sym same)
          (subst (λ (m : ℕ). IsLast (IsIn count a hs ms) m (slice_index new a)) (sym long) goes);
      steps = λ k lt live.
          let v : slice_index (take n before) k ≡ slice_index before k = get_or-take n before k 0 (omega arith) in
          subst (λ (m : ℕ). IsLast (IsIn m (bucket_of m (slice_index hs k)) hs ms) k (slice_index (take n before) k)) (sym same)
          (subst (IsLast (IsIn count (bucket_of count (slice_index hs k)) hs ms) k) (sym v) (h.steps k (omega arith) live));
    }

pub unlinked_gone : (heads before hs : List ℕ) (ms : List Bool) (n : ℕ) → n + 1 ≡ length before → get_or ms n true ≡ true → AreChained heads before hs ms → AreChained heads (take n before) hs ms
unlinked_gone heads before hs ms n at gone h =
    let count : ℕ = length heads in
    let long : length (take n before) ≡ n = length-take-le n before (omega arith) in
    record {
      within = omega (arith, long, h.within);
      ends = λ a lt.
          let old : IsLast (IsIn count a hs ms) (n + 1) (slice_index heads a) = subst (λ (m : ℕ). IsLast (IsIn count a hs ms) m (slice_index heads a)) (sym at) (h.ends a lt) in
          subst (λ (m : ℕ). IsLast (IsIn count a hs ms) m (slice_index heads a)) (sym long)
          (last_shrunk (IsIn count a hs ms) n (slice_index heads a) (λ q. (let t : true ≡ false = sym gone ∙ q.stays in cc)) old);
      steps = λ k lt live.
          let v : slice_index (take n before) k ≡ slice_index before k = get_or-take n before k 0 (omega arith) in
          subst (IsLast (IsIn count (bucket_of count (slice_index hs k)) hs ms) k) (sym v) (h.steps k (omega arith) live);
    }

-- ---- an entry gets a mark

marked : (ms : List Bool) (e : ℕ) → get_or (set ms e true) e true ≡ true
marked ms e = elim (cases_lt e (length ms)) [
  | inl lt ↦ get_or-set_same ms e true true lt
  | inr le ↦ get_or_past (set ms e true) e true (omega (arith, length-set ms e true))
]

still : (ms : List Bool) (e k : ℕ) → get_or (set ms e true) k true ≡ false → (k ≢ e) × (get_or ms k true ≡ false)
still ms e k live =
    let apart : k ≢ e = λ same. (let t : true ≡ false = sym (marked ms e) ∙ ap (λ (n : ℕ). get_or (set ms e true) n true) (sym same) ∙ live in cc) in
    (apart, sym (get_or-set_other ms e k true true apart) ∙ live)

last_less : (count b : ℕ) (hs : List ℕ) (ms : List Bool) (e end n : ℕ) → n ≢ e + 1 → IsLast (IsIn count b hs ms) end n → IsLast (IsIn count b hs (set ms e true)) end n
last_less count b hs ms e end n apart h = record {
  within = h.within;
  here = λ some. record { bucket = (h.here some).bucket; stays = get_or-set_other ms e (n - 1) true true (λ same. apart (omega arith)) ∙ (h.here some).stays };
  none = λ k low high q. h.none k low high (record { bucket = q.bucket; stays = (still ms e k q.stays).1 });
}

-- what was before it is now before the next one
pub dropped : (heads before hs : List ℕ) (ms : List Bool) (p e x : ℕ) → p < length before → e < length before → get_or ms p true ≡ false → get_or ms e true ≡ false → slice_index before p ≡ e + 1 → x ≡ slice_index before e
    → AreChained heads before hs ms → AreChained heads (set before p x) hs (set ms e true)
dropped heads before hs ms p e x in_p in_e live_p live_e next is h =
    let count : ℕ = length heads in
    let long : length (set before p x) ≡ length before = length-set before p x in
    let step = h.steps p in_p live_p in
    let up : e + 1 ≤ p = omega (arith, step.within) in
    let d : e + 1 - 1 ≡ e = omega arith in
    let at : bucket_of count (slice_index hs e) ≡ bucket_of count (slice_index hs p) = ap (λ (n : ℕ). bucket_of count (slice_index hs n)) (sym d) ∙ ap (λ (n : ℕ). bucket_of count (slice_index hs (n - 1))) (sym next) ∙ (step.here (omega arith)).bucket in
    record {
      within = omega (arith, long, h.within);
      ends = λ a lt.
          let old = h.ends a lt in
          let apart : slice_index heads a ≢ e + 1 = λ same.
          let f : slice_index heads a - 1 ≡ e = omega arith in
          let b : bucket_of count (slice_index hs e) ≡ a = ap (λ (n : ℕ). bucket_of count (slice_index hs n)) (sym f) ∙ (old.here (omega arith)).bucket in
          old.none p (omega arith) in_p (record { bucket = sym at ∙ b; stays = live_p })
          in
          subst (λ (n : ℕ). IsLast (IsIn count a hs (set ms e true)) n (slice_index heads a)) (sym long) (last_less count a hs ms e (length before) (slice_index heads a) apart old);
      steps = λ k lt live.
          let was = still ms e k live in
          let b : ℕ = bucket_of count (slice_index hs k) in
          elim (cases_eq k p) [
            | inl same ↦
                let v : slice_index (set before p x) k ≡ slice_index before e = ap (slice_index (set before p x)) same ∙ get_or-set_same before p x 0 in_p ∙ is in
                let own = h.steps e in_e live_e in
                let c : bucket_of count (slice_index hs e) ≡ b = at ∙ ap (λ (n : ℕ). bucket_of count (slice_index hs n)) (sym same) in
                subst (IsLast (IsIn count b hs (set ms e true)) k) (sym v) (record {
                  within = omega (arith, own.within);
                  here = λ some. (let q = own.here some in record { bucket = q.bucket ∙ c; stays = get_or-set_other ms e (slice_index before e - 1) true true (λ f. omega (arith, own.within)) ∙ q.stays });
                  none = λ n low high q.
                      let r = still ms e n q.stays in
                      elim (cases_lt n e) [
                        | inl below ↦ own.none n low below (record { bucket = q.bucket ∙ sym c; stays = r.1 })
                        | inr over ↦ step.none n (omega (arith, r.0)) (omega arith) (record { bucket = q.bucket ∙ sym c ∙ at; stays = r.1 })
                      ];
                })
            | inr apart ↦
                let v : slice_index (set before p x) k ≡ slice_index before k = get_or-set_other before p k x 0 apart in
                let old = h.steps k (omega arith) was.1 in
                let other : slice_index before k ≢ e + 1 = λ same.
                let f : slice_index before k - 1 ≡ e = omega arith in
                let c : bucket_of count (slice_index hs e) ≡ b = ap (λ (n : ℕ). bucket_of count (slice_index hs n)) (sym f) ∙ (old.here (omega arith)).bucket in
                elim (cases_lt k p) [
                  | inl below ↦ step.none k (omega (arith, old.within)) below (record { bucket = sym c ∙ at; stays = was.1 })
                  | inr over ↦ old.none p (omega arith) (omega arith) (record { bucket = sym at ∙ c; stays = live_p })
                ]
                in
                subst (IsLast (IsIn count b hs (set ms e true)) k) (sym v) (last_less count b hs ms e k (slice_index before k) other old)
          ];
    }

-- what was before the last entry of a bucket is then the last
pub dropped_last : (heads before hs : List ℕ) (ms : List Bool) (b e x : ℕ) → b < length heads → e < length before → get_or ms e true ≡ false → b ≡ bucket_of (length heads) (slice_index hs e) → slice_index heads b ≡ e + 1 → x ≡ slice_index before e
    → AreChained heads before hs ms → AreChained (set heads b x) before hs (set ms e true)
dropped_last heads before hs ms b e x in_heads in_e live here last is h =
    let count : ℕ = length heads in
    let new : List ℕ = set heads b x in
    let same : length new ≡ count = length-set heads b x in
    let top = h.ends b in_heads in
    let own = h.steps e in_e live in
    record {
      within = h.within;
      ends = λ a lt.
          let goes : IsLast (IsIn count a hs (set ms e true)) (length before) (slice_index new a) = elim (cases_eq a b) [
            | inl eq ↦
                let v : slice_index new a ≡ slice_index before e = ap (slice_index new) eq ∙ get_or-set_same heads b x 0 in_heads ∙ is in
                let c : bucket_of count (slice_index hs e) ≡ a = sym here ∙ sym eq in
                subst (IsLast (IsIn count a hs (set ms e true)) (length before)) (sym v) (record {
                  within = omega (arith, own.within);
                  here = λ some. (let q = own.here some in record { bucket = q.bucket ∙ c; stays = get_or-set_other ms e (slice_index before e - 1) true true (λ f. omega (arith, own.within)) ∙ q.stays });
                  none = λ n low high q.
                      let r = still ms e n q.stays in
                      elim (cases_lt n e) [
                        | inl below ↦ own.none n low below (record { bucket = q.bucket ∙ sym c; stays = r.1 })
                        | inr over ↦ top.none n (omega (arith, r.0)) high (record { bucket = q.bucket ∙ eq; stays = r.1 })
                      ];
                })
            | inr apart ↦
                let v : slice_index new a ≡ slice_index heads a = get_or-set_other heads b a x 0 apart in
                let old = h.ends a (omega arith) in
                let other : slice_index heads a ≢ e + 1 = λ f.
                let g : slice_index heads a - 1 ≡ e = omega arith in
                apart (sym (old.here (omega arith)).bucket ∙ ap (λ (n : ℕ). bucket_of count (slice_index hs n)) g ∙ sym here)
                in
                subst (IsLast (IsIn count a hs (set ms e true)) (length before)) (sym v) (last_less count a hs ms e (length before) (slice_index heads a) other old)
          ] in
          subst (λ (m : ℕ). IsLast (IsIn m a hs (set ms e true)) (length before) (slice_index new a)) (sym same) goes;
      steps = λ k lt stays.
          let was = still ms e k stays in
          let c : ℕ = bucket_of count (slice_index hs k) in
          let old = h.steps k lt was.1 in
          let other : slice_index before k ≢ e + 1 = λ f.
          let g : slice_index before k - 1 ≡ e = omega arith in
          let d : bucket_of count (slice_index hs e) ≡ c = ap (λ (n : ℕ). bucket_of count (slice_index hs n)) (sym g) ∙ (old.here (omega arith)).bucket in
          top.none k (omega (arith, old.within)) lt (record { bucket = sym d ∙ sym here; stays = was.1 })
          in
          subst (λ (m : ℕ). IsLast (IsIn m (bucket_of m (slice_index hs k)) hs (set ms e true)) k (slice_index before k)) (sym same)
          (last_less count c hs ms e k (slice_index before k) other old);
    }

-- the same if the entries that are linked are the same
pub chained_same : (heads before hs hs₁ : List ℕ) (ms ms₁ : List Bool) → length before ≤ length hs₁ → ((k : ℕ) → k < length before → slice_index hs₁ k ≡ slice_index hs k) → ((k : ℕ) → k < length before → get_or ms₁ k true ≡ get_or ms k true)
    → AreChained heads before hs ms → AreChained heads before hs₁ ms₁
chained_same heads before hs hs₁ ms ms₁ within same_hs same_ms h =
    let count : ℕ = length heads in
    let to : (b end n : ℕ) → end ≤ length before → IsLast (IsIn count b hs ms) end n → IsLast (IsIn count b hs₁ ms₁) end n = λ b end n low l. record {
      within = l.within;
      here = λ some. (let q = l.here some in let lt : n - 1 < length before = omega (arith, l.within) in record { bucket = ap (bucket_of count) (same_hs (n - 1) lt) ∙ q.bucket; stays = same_ms (n - 1) lt ∙ q.stays });
      none = λ k from high q. l.none k from high (record { bucket = ap (bucket_of count) (sym (same_hs k (omega arith))) ∙ q.bucket; stays = sym (same_ms k (omega arith)) ∙ q.stays });
    } in
    record {
      within = within;
      ends = λ b lt. to b (length before) (slice_index heads b) (omega arith) (h.ends b lt);
      steps = λ k lt live.
          subst (λ (m : ℕ). IsLast (IsIn count (bucket_of count m) hs₁ ms₁) k (slice_index before k)) (sym (same_hs k lt))
          (to (bucket_of count (slice_index hs k)) k (slice_index before k) (omega arith) (h.steps k lt (sym (same_ms k lt) ∙ live)));
    }

-- ---- a search

pub reaches_from : (count b hash : ℕ) (hs : List ℕ) (ms : List Bool) (long n end at : ℕ) → b ≡ bucket_of count hash → n ≤ long → end ≤ n → IsLast (IsIn count b hs ms) n at → Reaches count hash hs ms long end at
reaches_from count b hash hs ms long n end at e in_long low h = record {
  within = omega (arith, h.within);
  here = λ some. (let q = h.here some in record { bucket = q.bucket ∙ e; stays = q.stays });
  none = λ k from to has. h.none k from (omega arith) (record { bucket = ap (bucket_of count) has.same ∙ sym e; stays = has.stays });
}

pub reaches_step : (heads before hs : List ℕ) (ms : List Bool) (hash end at : ℕ) → AreChained heads before hs ms → 0 < at → (at ≤ end → slice_index hs (at - 1) ≡ hash → ⊥) → Reaches (length heads) hash hs ms (length before) end at
    → Reaches (length heads) hash hs ms (length before) end (slice_index before (at - 1)) × (slice_index before (at - 1) < at)
reaches_step heads before hs ms hash end at h some other r =
    let count : ℕ = length heads in
    let q = r.here some in
    let step = h.steps (at - 1) (omega (arith, r.within)) q.stays in (
      record {
        within = omega (arith, step.within, r.within);
        here = λ more. (let p = step.here more in record { bucket = p.bucket ∙ q.bucket; stays = p.stays });
        none = λ k from to has. elim (cases_lt k (at - 1)) [
          | inl below ↦ step.none k from below (record { bucket = ap (bucket_of count) has.same ∙ sym q.bucket; stays = has.stays })
          | inr over ↦ elim (cases_eq k (at - 1)) [
            | inl e ↦ other (omega arith) (ap (slice_index hs) (sym e) ∙ has.same)
            | inr apart ↦ r.none k (omega arith) to has
          ]
        ];
      },
      omega (arith, step.within),
    )
