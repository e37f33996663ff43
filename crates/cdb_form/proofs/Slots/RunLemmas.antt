-- Runs of used slots.
use Rattle.std.proofs.Common.{◌≡◌, ℕ, ◌+◌, ◌-◌, ◌<◌, ◌≤◌, true, false, List, [], ◌∷◌, length, drop, get_or, replicate, refl, sym, ap, ◌∙◌, arith, slice_set, suc, zero, max, inl, inr, subst}
use Rattle.cdb_form.proofs.Words.{AreRuns, IsRun, WordPair, cases_lt, empty_slot, get_or-replicate, get_or-set_other, get_or-set_same, is_used, length-replicate, prefix_len}
use Rattle.std.proofs.lemmas.List.Sums.{prefix_len-drop_yes}

past : {X : Type 0} (xs : List X) (at : ℕ) (d : X) → length xs ≤ at → get_or xs at d ≡ d
past [] at d h = refl
past (x ∷ xs) zero d h = let no : ⊥ = omega (arith, h) in elim no [ ]
past (x ∷ xs) (suc at) d h = past xs at d (omega (arith, h))

-- a used slot is one of them
pub used_within : (slots : List WordPair) (at : ℕ) → is_used (get_or slots at empty_slot) ≡ true → at < length slots
used_within slots at used = elim (cases_lt at (length slots)) [
  | inl low ↦ low
  | inr high ↦ let none : false ≡ true = ap is_used (sym (past slots at empty_slot high)) ∙ used in grind (arith, none)
]

pub run_within : (slots : List WordPair) (at n : ℕ) → at ≤ length slots → IsRun at n slots → at + n ≤ length slots
run_within slots at zero within run = omega (arith, within)
run_within slots at (suc n) within run = let last = used_within slots (at + n) (run n (omega arith)) in omega (arith, last)

-- two runs, one after the other
pub run_joined : (slots : List WordPair) (at n m : ℕ) → IsRun at n slots → IsRun (at + n) m slots → IsRun at (n + m) slots
run_joined slots at n m run more = λ k low. elim (cases_lt k n) [
  | inl first ↦ run k first
  | inr second ↦
      let same : at + n + (k - n) ≡ at + k = omega (arith, second) in
      subst (λ (i : ℕ). is_used (get_or slots i empty_slot) ≡ true) same (more (k - n) (omega (arith, low, second)))
]

-- a run is passed over
pub run_passed : (slots : List WordPair) (at n : ℕ) → IsRun at n slots → n + prefix_len is_used (drop (at + n) slots) ≡ prefix_len is_used (drop at slots)
run_passed slots at zero run = let same : at + 0 ≡ at = omega arith in let e : prefix_len is_used (drop (at + 0) slots) ≡ prefix_len is_used (drop at slots) = ap (λ (i : ℕ). prefix_len is_used (drop i slots)) same in omega (arith, e)
run_passed slots at (suc n) run =
    let used = run n (omega arith) in
    let one = prefix_len-drop_yes is_used slots (at + n) empty_slot (used_within slots (at + n) used) used in
    let same : at + suc n ≡ at + n + 1 = omega arith in
    let next : prefix_len is_used (drop (at + suc n) slots) ≡ prefix_len is_used (drop (at + n + 1) slots) = ap (λ (i : ℕ). prefix_len is_used (drop i slots)) same in
    let before = run_passed slots at n (λ k low. run k (omega (arith, low))) in
    omega (arith, one, next, before)

run_set : (slots : List WordPair) (runs : List ℕ) (at n : ℕ) → at < length runs → IsRun at n slots → AreRuns runs slots → AreRuns (slice_set runs at n) slots
run_set slots runs at n within run all = λ i used. elim (cases_lt i at) [
  | inl low ↦ subst (λ (r : ℕ). IsRun i r slots) (sym (get_or-set_other runs at i n 0 (λ e. omega (arith, e, low)))) (all i used)
  | inr high ↦ elim (cases_lt at i) [
    | inl above ↦ subst (λ (r : ℕ). IsRun i r slots) (sym (get_or-set_other runs at i n 0 (λ e. omega (arith, e, above)))) (all i used)
    | inr not ↦
        let same : at ≡ i = omega (arith, high, not) in
        subst (λ (j : ℕ). IsRun j (get_or (slice_set runs at n) j 0) slots) same
        (subst (λ (r : ℕ). IsRun at r slots) (sym (get_or-set_same runs at n 0 within)) run)
  ]
]

-- a run is noted, or its first slots
pub run_noted : (slots : List WordPair) (runs : List ℕ) (at n m : ℕ) → at < length runs → m ≤ n → IsRun at n slots → AreRuns runs slots → AreRuns (slice_set runs at m) slots
run_noted slots runs at n m within less run all = run_set slots runs at m within (λ k low. run k (omega (arith, low, less))) all

-- an empty slot is filled, and the runs of the others stay
runs_kept : (slots : List WordPair) (runs : List ℕ) (place at : ℕ) (e : WordPair) → (at ≡ place → ⊥) → is_used (get_or slots place empty_slot) ≡ false → AreRuns runs slots
    → is_used (get_or (slice_set slots place e) at empty_slot) ≡ true → IsRun at (get_or runs at 0) (slice_set slots place e)
runs_kept slots runs place at e apart empty all filled = λ k low.
    let was : is_used (get_or slots at empty_slot) ≡ true = sym (ap is_used (get_or-set_other slots place at e empty_slot apart)) ∙ filled in
    let used = all at was k low in
    let other : (at + k ≡ place → ⊥) = λ same.
    let clash : true ≡ false = sym used ∙ ap (λ (i : ℕ). is_used (get_or slots i empty_slot)) same ∙ empty in grind (arith, clash) in
    ap is_used (get_or-set_other slots place (at + k) e empty_slot other) ∙ used

-- and nothing is known of its own
pub runs_filled : (slots : List WordPair) (runs : List ℕ) (place : ℕ) (e : WordPair) → place < length runs → is_used (get_or slots place empty_slot) ≡ false → AreRuns runs slots → AreRuns (slice_set runs place 0) (slice_set slots place e)
runs_filled slots runs place e within empty all = λ at filled. elim (cases_lt at place) [
  | inl low ↦ let apart : (at ≡ place → ⊥) = λ e. omega (arith, e, low) in
      subst (λ (r : ℕ). IsRun at r (slice_set slots place e)) (sym (get_or-set_other runs place at 0 0 apart)) (runs_kept slots runs place at e apart empty all filled)
  | inr high ↦ elim (cases_lt place at) [
    | inl above ↦ let apart : (at ≡ place → ⊥) = λ e. omega (arith, e, above) in
        subst (λ (r : ℕ). IsRun at r (slice_set slots place e)) (sym (get_or-set_other runs place at 0 0 apart)) (runs_kept slots runs place at e apart empty all filled)
    | inr not ↦
        let same : place ≡ at = omega (arith, high, not) in
        subst (λ (j : ℕ). IsRun j (get_or (slice_set runs place 0) j 0) (slice_set slots place e)) same
        (subst (λ (r : ℕ). IsRun place r (slice_set slots place e)) (sym (get_or-set_same runs place 0 0 within)) (λ k low. let no : ⊥ = omega (arith, low) in elim no [ ]))
  ]
]

-- no run is noted
pub runs_unknown : (n : ℕ) (slots : List WordPair) (runs : List ℕ) → runs ≡ replicate n 0 → AreRuns runs slots
runs_unknown n slots runs none = λ at used k low.
    let zero : get_or runs at 0 ≡ 0 = ap (λ (rs : List ℕ). get_or rs at 0) none ∙ elim (cases_lt at n) [
      | inl few ↦ get_or-replicate n at 0 0 few
      | inr past_all ↦ past (replicate n 0) at 0 (omega (arith, past_all, length-replicate {A = ℕ} n 0))
    ] in
    let no : ⊥ = omega (arith, zero, low) in elim no [ ]

-- from a used slot on there is a run of one at least
pub run_some : (slots : List WordPair) (at n m : ℕ) → m ≡ max n 1 → is_used (get_or slots at empty_slot) ≡ true → IsRun at n slots → IsRun at m slots
run_some slots at zero m e used run = λ k low.
    let same : at ≡ at + k = omega (arith, low, e) in
    subst (λ (i : ℕ). is_used (get_or slots i empty_slot) ≡ true) same used
run_some slots at (suc n) m e used run = λ k low. run k (omega (arith, low, e))

-- two runs passed over at once
pub record ArePassed (slots : List WordPair) (at run more : ℕ) : Type 0 where
  pub within : at + (run + more) ≤ length slots
  pub joined : IsRun at (run + more) slots
  pub passed : at + (run + more) + prefix_len is_used (drop (at + (run + more)) slots) ≡ at + prefix_len is_used (drop at slots)

pub runs_passed : (slots : List WordPair) (at run more : ℕ) → at ≤ length slots → IsRun at run slots → IsRun (at + run) more slots → ArePassed slots at run more
runs_passed slots at run more within first second =
    let joined = run_joined slots at run more first second in
    let low = run_within slots at (run + more) within joined in
    let over = run_passed slots at (run + more) joined in
    record { within = omega (arith, low); joined = joined; passed = omega (arith, over) }

-- of empty slots no run is known
pub runs_none : (n : ℕ) (slots : List WordPair) (runs : List ℕ) → slots ≡ replicate n empty_slot → AreRuns runs slots
runs_none n slots runs empty = λ at used.
    let low : at < n = omega (arith, used_within slots at used, ap length empty, length-replicate n empty_slot) in
    let none : get_or slots at empty_slot ≡ empty_slot = ap (λ s. get_or s at empty_slot) empty ∙ get_or-replicate n at empty_slot empty_slot low in
    let clash : false ≡ true = sym (ap is_used none) ∙ used in grind (arith, clash)
