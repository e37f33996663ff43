-- A search among some of the places of a list.
use Rattle.std.proofs.Common.{◌≡◌, ℕ, ◌+◌, ◌-◌, ◌<◌, ◌≤◌, List, length, get_or, take, drop, sym, ap, ◌∙◌, arith, inl, inr, Result, Ok, Err}
use Rattle.std.specs.Prelude.{MatchResult}
use Rattle.std.specs.Ordering.{nat_cmp}
use Rattle.std.specs.List.Sorted.{IsStrictlyIncreasing, IsBinarySearchResult}
use Rattle.std.proofs.lemmas.Bool.{cases_lt}
use Rattle.std.proofs.lemmas.List.{length-drop, length-take-le, get_or-take, get_or-drop}
use Rattle.std.proofs.lemmas.List.Sorted.{searched}
use Rattle.cdb_read.proofs.Checks.Entered.{rising_from}

-- the places from a number on and below another
length-among : (ps : List ℕ) (f t : ℕ) → f ≤ t → t ≤ length ps → length (take (t - f) (drop f ps)) ≡ t - f
length-among ps f t ft tl = let long = length-drop f ps in length-take-le (t - f) (drop f ps) (omega arith)

get_or-among : (ps : List ℕ) (f t i : ℕ) → i < t - f → get_or (take (t - f) (drop f ps)) i 0 ≡ get_or ps (f + i) 0
get_or-among ps f t i l = get_or-take (t - f) (drop f ps) i 0 l ∙ get_or-drop f ps i 0

rising_among : (ps : List ℕ) (f t : ℕ) → IsStrictlyIncreasing ps → f ≤ t → t ≤ length ps → (i j : ℕ) → i ≤ j → j < length (take (t - f) (drop f ps)) → get_or (take (t - f) (drop f ps)) i 0 ≤ get_or (take (t - f) (drop f ps)) j 0
rising_among ps f t up ft tl i j ij low =
    let long = length-among ps f t ft tl in
    let first = get_or-among ps f t i (omega arith) in
    let second = get_or-among ps f t j (omega arith) in
    let far : get_or ps (f + i) 0 ≤ get_or ps (f + j) 0 = rising_from ps (f + i) (f + j) up (omega arith) (omega arith) in
    omega arith

-- what a search among them says of all
pub searched_among : (ps : List ℕ) (x f t : ℕ) (r : Result ℕ ℕ) → IsStrictlyIncreasing ps → f ≤ t → t ≤ length ps → IsBinarySearchResult (λ y. nat_cmp y x) (take (t - f) (drop f ps)) r
    → MatchResult r (λ i. (f + i < length ps) × (get_or ps (f + i) 0 ≡ x)) (λ _. (k : ℕ) → f ≤ k → k < t → get_or ps k 0 ≡ x → ⊥)
searched_among ps x f t (Ok i) up ft tl h =
    let found = searched (take (t - f) (drop f ps)) x (Ok i) h (rising_among ps f t up ft tl) in
    let long = length-among ps f t ft tl in
    let low : i < t - f = omega (arith, found.0) in
    (omega arith, sym (get_or-among ps f t i low) ∙ found.1)
searched_among ps x f t (Err i) up ft tl h = λ k from to here.
    let found = searched (take (t - f) (drop f ps)) x (Err i) h (rising_among ps f t up ft tl) in
    let long = length-among ps f t ft tl in
    let back : f + (k - f) ≡ k = omega arith in
    let same : get_or (take (t - f) (drop f ps)) (k - f) 0 ≡ x = get_or-among ps f t (k - f) (omega arith) ∙ ap (λ n. get_or ps n 0) back ∙ here in
    elim (cases_lt (k - f) i) [
      | inl less ↦ (let below = found.1 (k - f) less in omega arith)
      | inr more ↦ (let above = found.2 (k - f) more (omega arith) in omega arith)
    ]
