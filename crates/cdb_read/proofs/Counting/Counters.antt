-- Counters that take one more number.
use Rattle.cdb_read.proofs.Words.{Bool, Counts, Distances, List, [], ap, arith, cases_Bool, cases_lt, eqb-false, eqb-true, false, get_or, get_or-map-range_with_len, inl, inr, length, length-map-range_with_len, min-eq_left, min-eq_right, min-le_right, sum_by-append, sym, true, ℕ, ◌++◌, ◌+◌, ◌<◌, ◌∙◌, ◌∷◌, ◌≡◌, ◌≤◌}
use Rattle.std.specs.Prelude.{◌==◌, min, count_by, cond, set, not}
use Rattle.std.proofs.lemmas.List.{ext_get_or, get_or-set_same, get_or-set_other, length-set, length-append}
use Rattle.cdb_read.specs.Statistics.{capped, collisions_of, distance_counts}

-- a count that stops, and one more
pub capped_more : (n m : ℕ) → min (capped n + m) 18446744073709551615 ≡ capped (n + m)
capped_more n m = elim (cases_lt n 18446744073709551615) [
  | inl low ↦ ap (λ k. min (k + m) 18446744073709551615) (min-eq_left (omega arith))
  | inr high ↦
      (let same : capped n ≡ 18446744073709551615 = min-eq_right high in
      ap (λ k. min (k + m) 18446744073709551615) same ∙ min-eq_right (omega arith) ∙ sym (min-eq_right (omega arith)))
]

count_more : {X : Type 0} (p : X → Bool) (xs : List X) (x : X) → count_by p (xs ++ x ∷ []) ≡ count_by p xs + cond (p x) 1 0
count_more p xs x =
    let one : 0 + cond (p x) 1 0 ≡ cond (p x) 1 0 = omega arith in
    sum_by-append (λ y. cond (p y) 1 0) xs (x ∷ []) ∙ ap (λ n. count_by p xs + n) one

-- one more element
pub capped_count : {X : Type 0} (p : X → Bool) (xs : List X) (x : X) → min (capped (count_by p xs) + cond (p x) 1 0) 18446744073709551615 ≡ capped (count_by p (xs ++ x ∷ []))
capped_count p xs x = capped_more (count_by p xs) (cond (p x) 1 0) ∙ ap capped (sym (count_more p xs x))

-- how many are at one distance
abbrev at_distance : List ℕ → ℕ → ℕ
at_distance ds k = capped (count_by (λ d. min d 10 == k) ds)

counted_at : (ds : List ℕ) (k : ℕ) → k < 11 → get_or (distance_counts ds) k 0 ≡ at_distance ds k
counted_at ds k low = let at : 0 + k ≡ k = omega arith in get_or-map-range_with_len (at_distance ds) 0 11 k k 0 low at

long : (ds : List ℕ) → length (distance_counts ds) ≡ 11
long ds = length-map-range_with_len (at_distance ds) 0 11

-- a distance is counted in its class
pub distances_more : (ds : List ℕ) (d class count : ℕ) → class ≡ min d 10 → class < 11 → count ≡ min (get_or (distance_counts ds) class 0 + 1) 18446744073709551615 → set (distance_counts ds) class count ≡ distance_counts (ds ++ d ∷ [])
distances_more ds d class count is low more =
    let was = distance_counts ds in
    let now = distance_counts (ds ++ d ∷ []) in
    let l = length-set was class count in
    let lw = long ds in
    let ln = long (ds ++ d ∷ []) in
    let step : (k : ℕ) → k < 11 → get_or (set was class count) k 0 ≡ get_or now k 0 = λ k few.
    let then : (b : Bool) → (min d 10 == k) ≡ b → min (at_distance ds k + cond b 1 0) 18446744073709551615 ≡ get_or now k 0 = λ b e.
    ap (λ t. min (at_distance ds k + cond t 1 0) 18446744073709551615) (sym e) ∙ capped_count (λ x. min x 10 == k) ds d ∙ sym (counted_at (ds ++ d ∷ []) k few) in
    elim (cases_Bool (min d 10 == k)) [
      | inl same ↦
          (let here : class ≡ k = is ∙ eqb-true (min d 10) k same in
          ap (λ i. get_or (set was i count) k 0) here
          ∙ get_or-set_same was k count 0 (omega arith)
          ∙ more
          ∙ ap (λ i. min (get_or was i 0 + 1) 18446744073709551615) here
          ∙ ap (λ n. min (n + 1) 18446744073709551615) (counted_at ds k few)
          ∙ then true same)
      | inr other ↦
          (let n : at_distance ds k + 0 ≡ at_distance ds k = omega arith in
          let under : at_distance ds k ≤ 18446744073709551615 = min-le_right _ 18446744073709551615 in
          get_or-set_other was class k count 0 (λ e. eqb-false (min d 10) k other (sym is ∙ sym e))
          ∙ counted_at ds k few
          ∙ sym (min-eq_left under)
          ∙ ap (λ t. min t 18446744073709551615) (sym n)
          ∙ then false other)
    ] in
    ext_get_or 0 (set was class count) now (omega arith) (λ k inside. step k (omega arith))

-- a slot more, if its counters were raised
pub counts_more : (old : Distances) (ds : List ℕ) (d class entries collisions count : ℕ) (away : Bool) → Counts old ds → not (d == 0) ≡ away → entries ≡ min (old.entries + 1) 18446744073709551615 → collisions ≡ min (old.collisions + cond away 1 0) 18446744073709551615 → class ≡ min d 10 → class < 11
    → count ≡ min (get_or old.counts class 0 + 1) 18446744073709551615 → Counts (record { entries = entries; collisions = collisions; counts = set old.counts class count }) (ds ++ d ∷ [])
counts_more old ds d class entries collisions count away h is one more here low put =
    record {
      entries = one ∙ ap (λ n. min (n + 1) 18446744073709551615) h.entries ∙ capped_more (length ds) 1 ∙ ap capped (sym (length-append ds (d ∷ [])));
      collisions = more
          ∙ ap (λ n. min (n + cond away 1 0) 18446744073709551615) h.collisions
          ∙ ap (λ b. min (collisions_of ds + cond b 1 0) 18446744073709551615) (sym is)
          ∙ capped_count (λ x. not (x == 0)) ds d;
      counts = ap (λ xs. set xs class count) h.counts
          ∙ distances_more ds d class count here low (put ∙ ap (λ xs. min (get_or xs class 0 + 1) 18446744073709551615) h.counts);
    }

-- a count that stays
pub counts_same : (old : Distances) (ds : List ℕ) → Counts old ds → old.collisions ≡ min (old.collisions + cond false 1 0) 18446744073709551615
counts_same old ds h =
    let under : collisions_of ds ≤ 18446744073709551615 = min-le_right _ 18446744073709551615 in
    let is = h.collisions in
    let none : old.collisions + 0 ≡ old.collisions = omega arith in
    sym (ap (λ n. min n 18446744073709551615) none ∙ min-eq_left (omega arith))
