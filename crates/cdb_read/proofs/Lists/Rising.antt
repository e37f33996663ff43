-- Entries whose places rise.
use Rattle.cdb_read.proofs.Words.{All, All-cons, All-nil, All-weaker, Bool, IsRising, IsStrictlyIncreasing, KeyValue, List, WordPair, [], arith, cases_Bool, cond-false, cond-true, entries_from, entries_of, get_or, inl, inr, length, ne_eqb, record_size, subst, suc, sym, zero, ℕ, ◌+◌, ◌<◌, ◌∷◌, ◌≡◌, ◌≤◌}
use Rattle.std.specs.List.{filter}
use Rattle.cdb_read.proofs.Lists.Apart.{AreApart}

rising_lower : (low high : ℕ) (es : List WordPair) → low ≤ high → IsRising high es → IsRising low es
rising_lower low high [] l up = tt
rising_lower low high (e ∷ es) l up =
    let h : high ≤ e.second = up.0 in
    let k : low ≤ e.second = omega arith in
    (k, up.1)

-- those that pass a test
pub rising_filter : (p : WordPair → Bool) (low : ℕ) (es : List WordPair) → IsRising low es → IsRising low (filter p es)
rising_filter p low [] up = tt
rising_filter p low (e ∷ es) up =
    let h : low ≤ e.second = up.0 in
    let k : low ≤ e.second + 1 = omega arith in
    let rest = rising_filter p (e.second + 1) es up.1 in
    elim (cases_Bool (p e)) [
      | inl t ↦ subst (IsRising low) (sym (cond-true (p e) (e ∷ filter p es) (filter p es) t)) (h, rest)
      | inr f ↦ subst (IsRising low) (sym (cond-false (p e) (e ∷ filter p es) (filter p es) f)) (rising_lower low (e.second + 1) (filter p es) k rest)
    ]

-- the entries of records
pub rising_entries : (w at : ℕ) (rs : List KeyValue) → 0 < w → IsRising at (entries_from w at rs)
unfolding entries_from
rising_entries w at [] some = tt
rising_entries w at (r ∷ rs) some =
    let same : at ≤ at = omega arith in
    let next : at + 1 ≤ at + record_size w r = omega arith in
    (same, rising_lower (at + 1) (at + record_size w r) (entries_from w (at + record_size w r) rs) next (rising_entries w (at + record_size w r) rs some))

pub rising_from_one : (low : ℕ) (es : List WordPair) → 1 ≤ low → IsRising low es → IsRising 1 es
rising_from_one low es l up = rising_lower 1 low es l up

-- no place is lower, and no two are the same
pub rising_above : (low : ℕ) (es : List WordPair) → IsRising low es → All (λ e. low ≤ e.second) es
rising_above low [] up = All-nil (λ e. low ≤ e.second)
rising_above low (e ∷ es) up =
    let h : low ≤ e.second = up.0 in
    All-cons (λ x. low ≤ x.second) e es h (All-weaker (λ x. e.second + 1 ≤ x.second) (λ x. low ≤ x.second) (λ x k. omega arith) es (rising_above (e.second + 1) es up.1))

pub rising_is_apart : (low : ℕ) (es : List WordPair) → IsRising low es → AreApart es
rising_is_apart low [] up = tt
rising_is_apart low (e ∷ es) up = (
  All-weaker (λ x. e.second + 1 ≤ x.second) _ (λ x k. ne_eqb x.second e.second (λ i. omega arith)) es (rising_above (e.second + 1) es up.1),
  rising_is_apart (e.second + 1) es up.1,
)

-- the places alone
pub places_rise : (low : ℕ) (ps hs : List ℕ) → length hs ≡ length ps → IsRising low (entries_of ps hs) → IsStrictlyIncreasing ps
places_rise low [] hs e up k l = absurd (omega arith)
places_rise low (p ∷ ps) [] e up k l = absurd (omega arith)
places_rise low (p ∷ []) (h ∷ hs) e up k l = absurd (omega arith)
places_rise low (p ∷ q ∷ ps) (h ∷ []) e up k l = absurd (omega arith)
places_rise low (p ∷ q ∷ ps) (h ∷ g ∷ hs) e up zero l = let m : p + 1 ≤ q = up.1.0 in omega arith
places_rise low (p ∷ q ∷ ps) (h ∷ g ∷ hs) e up (suc k) l =
    let n : suc (k + 1) ≡ suc k + 1 = omega arith in
    subst (λ j. get_or (p ∷ q ∷ ps) (suc k) 0 < get_or (p ∷ q ∷ ps) j 0) n (places_rise (p + 1) (q ∷ ps) (g ∷ hs) (omega arith) up.1 k (omega arith))

pub places_above : (low : ℕ) (ps hs : List ℕ) → length hs ≡ length ps → IsRising low (entries_of ps hs) → All (λ p. low ≤ p) ps
places_above low [] hs e up = All-nil (λ p. low ≤ p)
places_above low (p ∷ ps) [] e up = absurd (omega arith)
places_above low (p ∷ ps) (h ∷ hs) e up =
    let k : low ≤ p = up.0 in
    All-cons (λ x. low ≤ x) p ps k (All-weaker (λ x. p + 1 ≤ x) (λ x. low ≤ x) (λ x m. omega arith) ps (places_above (p + 1) ps hs (omega arith) up.1))
