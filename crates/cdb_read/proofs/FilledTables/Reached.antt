-- What a search comes to: the used and wanted elements, by their places and counted.
use Rattle.cdb_read.proofs.Words.{All, Bool, List, WordPair, [], and_from, and_parts, ap, arith, both_ways, cases_Bool, cases_lt, cond-false, cond-true, count_by, distance, drop, empty_slot, eq-eqb, eqb-true, false, get_or, has_hash, home_slot, inl, inr, is_reached, is_used, length, list_all, mod-eq_of_lt, nth_slot, prefix_len, refl, slots_from, subst, suc, sym, take, true, zero, ℕ, ◌%◌, ◌+◌, ◌-◌, ◌<◌, ◌∙◌, ◌∷◌, ◌≡◌, ◌≤◌}
use native.Mathlib.Nat.{mod-eq-sub-mod}
use Rattle.std.proofs.lemmas.List.Elements.{All-nil, All-cons, All-head, All-tail, All-append, All-drop, All-take, All-same}
use Rattle.cdb_read.proofs.Lists.Counts.{count-cons, counts_none}
use Rattle.cdb_read.proofs.FilledTables.Filled.{turned, turned-before, turned-behind, turned-home, turned-lt, get_or-slots_from, length-slots_from, from_home, NoneBehind}
use Rattle.cdb_read.proofs.Lists.Meeting.{met, met-used, met-unused, met-none, HasNone, HasNoneBehind}

-- an element before which all are used is met, if it is used itself
used_before : {X : Type 0} (u : X → Bool) (xs : List X) (j : ℕ) (d : X) → j < length xs → list_all u (take j xs) ≡ true → u (get_or xs j d) ≡ true → j < prefix_len u xs
used_before u [] j d l all used = absurd (omega arith)
used_before u (x ∷ xs) zero d l all used = let e = cond-true (u x) (1 + prefix_len u xs) 0 used in omega arith
used_before u (x ∷ xs) (suc j) d l all used =
    let both = and_parts (u x) (list_all u (take j xs)) all in
    let e = cond-true (u x) (1 + prefix_len u xs) 0 both.0 in
    let ih = used_before u xs j d (omega arith) both.1 used in
    omega arith

-- and before one that is met all are used
all_before : {X : Type 0} (u : X → Bool) (xs : List X) (j : ℕ) → j < prefix_len u xs → list_all u (take j xs) ≡ true
all_before u xs zero l = refl
all_before u [] (suc j) l = refl
all_before u (x ∷ xs) (suc j) l = elim (cases_Bool (u x)) [
  | inl t ↦ (let e = cond-true (u x) (1 + prefix_len u xs) 0 t in and_from (u x) (list_all u (take j xs)) t (all_before u xs j (omega arith)))
  | inr f ↦ (let e = cond-false (u x) (1 + prefix_len u xs) 0 f in absurd (omega arith))
]

-- by place: each used and wanted element is before the first that is not used
HasNone-at : {X : Type 0} (u g : X → Bool) (xs : List X) (j : ℕ) (d : X) → HasNone u g xs → j < length xs → u (get_or xs j d) ≡ true → g (get_or xs j d) ≡ true → ⊥
HasNone-at u g [] j d none l a b = omega arith
HasNone-at u g (x ∷ xs) zero d none l a b = both_ways (g x) (none.0 a) b
HasNone-at u g (x ∷ xs) (suc j) d none l a b = HasNone-at u g xs j d none.1 (omega arith) a b

HasNoneBehind-at : {X : Type 0} (u g : X → Bool) (xs : List X) (j : ℕ) (d : X) → HasNoneBehind u g xs → j < length xs → u (get_or xs j d) ≡ true → g (get_or xs j d) ≡ true → j < prefix_len u xs
HasNoneBehind-at u g [] j d none l a b = absurd (omega arith)
HasNoneBehind-at u g (x ∷ xs) zero d none l a b = let e = cond-true (u x) (1 + prefix_len u xs) 0 a in omega arith
HasNoneBehind-at u g (x ∷ xs) (suc j) d none l a b = elim (cases_Bool (u x)) [
  | inl t ↦ (let e = cond-true (u x) (1 + prefix_len u xs) 0 t in let ih = HasNoneBehind-at u g xs j d (none.0 t) (omega arith) a b in omega arith)
  | inr f ↦ absurd (HasNone-at u g xs j d (none.1 f) (omega arith) a b)
]

HasNone-from : {X : Type 0} (u g : X → Bool) (xs : List X) (d : X) → ((j : ℕ) → j < length xs → u (get_or xs j d) ≡ true → g (get_or xs j d) ≡ true → ⊥) → HasNone u g xs
HasNone-from u g [] d never = tt
HasNone-from u g (x ∷ xs) d never = (λ t. elim (cases_Bool (g x)) [ inl w ↦ absurd (never 0 (omega arith) t w) | inr n ↦ n ], HasNone-from u g xs d (λ j l. never (suc j) (omega arith)))

HasNoneBehind-from : {X : Type 0} (u g : X → Bool) (xs : List X) (d : X) → ((j : ℕ) → j < length xs → u (get_or xs j d) ≡ true → g (get_or xs j d) ≡ true → j < prefix_len u xs) → HasNoneBehind u g xs
HasNoneBehind-from u g [] d low = tt
HasNoneBehind-from u g (x ∷ xs) d low = (
  λ t. HasNoneBehind-from u g xs d (λ j l a b. (let h = low (suc j) (omega arith) a b in let e = cond-true (u x) (1 + prefix_len u xs) 0 t in omega arith)),
  λ f. HasNone-from u g xs d (λ j l a b. (let h = low (suc j) (omega arith) a b in let e = cond-false (u x) (1 + prefix_len u xs) 0 f in omega arith)),
)

-- what holds of used elements, holds of those that are met, and these are wanted
pub met_all : {X : Type 0} (Q : X → Type 0) (u g : X → Bool) (xs : List X) → All (λ s. u s ≡ true → Q s) xs → All (λ s. Q s × (g s ≡ true)) (met u g xs)
met_all Q u g [] all = All-same (λ s. Q s × (g s ≡ true)) (met u g []) [] (met-none u g) (All-nil (λ s. Q s × (g s ≡ true)))
met_all Q u g (x ∷ xs) all = elim (cases_Bool (u x)) [
  | inl t ↦
      (let ih = met_all Q u g xs (All-tail (λ s. u s ≡ true → Q s) x xs all) in
      let here = All-head (λ s. u s ≡ true → Q s) x xs all t in
      elim (cases_Bool (g x)) [
        | inl w ↦ All-same (λ s. Q s × (g s ≡ true)) (met u g (x ∷ xs)) (x ∷ met u g xs) (met-used u g x xs t ∙ cond-true (g x) (x ∷ met u g xs) (met u g xs) w) (All-cons (λ s. Q s × (g s ≡ true)) x (met u g xs) (here, w) ih)
        | inr n ↦ All-same (λ s. Q s × (g s ≡ true)) (met u g (x ∷ xs)) (met u g xs) (met-used u g x xs t ∙ cond-false (g x) (x ∷ met u g xs) (met u g xs) n) ih
      ])
  | inr f ↦ All-same (λ s. Q s × (g s ≡ true)) (met u g (x ∷ xs)) [] (met-unused u g x xs f) (All-nil (λ s. Q s × (g s ≡ true)))
]

-- a test that only used and wanted elements pass
abbrev pub OnlyWanted : {X : Type 0} → (X → Bool) → (X → Bool) → (X → Bool) → X → Type 0
OnlyWanted q u g s = q s ≡ true → (u s ≡ true) × (g s ≡ true)

count_none : {X : Type 0} (q u g : X → Bool) (xs : List X) → All (OnlyWanted q u g) xs → HasNone u g xs → count_by q xs ≡ 0
count_none q u g [] only none = refl
count_none q u g (x ∷ xs) only none = elim (cases_Bool (q x)) [
  | inl t ↦ (let both = All-head (OnlyWanted q u g) x xs only t in absurd (both_ways (g x) (none.0 both.0) both.1))
  | inr f ↦
      (let a = count-cons q x xs in
      let b = counts_none (q x) f in
      let ih = count_none q u g xs (All-tail (OnlyWanted q u g) x xs only) none.1 in
      omega arith)
]

-- if no used and wanted element comes later, as many of those that are met pass the test as of all
pub count-met : {X : Type 0} (q u g : X → Bool) (xs : List X) → All (OnlyWanted q u g) xs → HasNoneBehind u g xs → count_by q (met u g xs) ≡ count_by q xs
count-met q u g [] only none = ap (count_by q) (met-none u g)
count-met q u g (x ∷ xs) only none =
    let both = count-cons q x xs in
    let here = All-head (OnlyWanted q u g) x xs only in
    let others = All-tail (OnlyWanted q u g) x xs only in
    elim (cases_Bool (u x)) [
      | inl t ↦
          (let ih = count-met q u g xs others (none.0 t) in
          elim (cases_Bool (g x)) [
            | inl w ↦ (let front = count-cons q x (met u g xs) in ap (count_by q) (met-used u g x xs t ∙ cond-true (g x) (x ∷ met u g xs) (met u g xs) w) ∙ omega arith)
            | inr n ↦
                (let fails : q x ≡ false = elim (cases_Bool (q x)) [ inl p ↦ absurd (both_ways (g x) n (here p).1) | inr p ↦ p ] in
                let none_here = counts_none (q x) fails in
                ap (count_by q) (met-used u g x xs t ∙ cond-false (g x) (x ∷ met u g xs) (met u g xs) n) ∙ omega arith)
          ])
      | inr f ↦
          (let fails : q x ≡ false = elim (cases_Bool (q x)) [ inl p ↦ absurd (both_ways (u x) f (here p).0) | inr p ↦ p ] in
          let none_here = counts_none (q x) fails in
          let rest = count_none q u g xs others (none.1 f) in
          ap (count_by q) (met-unused u g x xs f) ∙ omega arith)
    ]

-- how far a slot is after a home is its place among the slots from there
pub distance-turned : (home n i : ℕ) → home < n → i < n → distance home n i ≡ turned home n i
distance-turned home n i h l = elim (cases_lt i home) [
  | inl low ↦ (let e : i + (n - home) < n = omega arith in mod-eq_of_lt e ∙ (let t = turned-before home n i low in omega arith))
  | inr high ↦
      (let e : n ≤ i + (n - home) = omega arith in
      let t = turned-behind home n i high in
      let back : i + (n - home) - n ≡ i - home = omega arith in
      mod-eq-sub-mod e ∙ ap (λ k. k % n) back ∙ mod-eq_of_lt (omega arith) ∙ sym t)
]

-- the slots from a home on
pub All-slots_from : (P : WordPair → Type 0) (home : ℕ) (slots : List WordPair) → All P slots → All P (slots_from home slots)
All-slots_from P home slots all = All-append P (drop home slots) (take home slots) (All-drop P home slots all) (All-take P home slots all)

-- a used slot that is reached is met from its home
reached-near : (slots : List WordPair) (i h : ℕ) → i < length slots → (nth_slot slots i).first ≡ h → is_used (nth_slot slots i) ≡ true → is_reached slots i ≡ true
    → turned (home_slot h (length slots)) (length slots) i < prefix_len is_used (from_home h slots)
reached-near slots i h l hash used reached =
    let home = home_slot h (length slots) in
    let home_in : home < length slots = omega arith in
    let far = distance-turned home (length slots) i home_in l in
    let at = turned-lt home (length slots) i (omega arith) l in
    let long = length-slots_from home slots in
    let all : list_all is_used (take (distance home (length slots) i) (from_home h slots)) ≡ true =
    subst (λ k. list_all is_used (take (distance (home_slot k (length slots)) (length slots) i) (from_home k slots)) ≡ true) hash reached in
    used_before is_used (from_home h slots) (turned home (length slots) i) empty_slot (omega arith)
    (ap (λ k. list_all is_used (take k (from_home h slots))) (sym far) ∙ all)
    (ap is_used (get_or-slots_from home i slots empty_slot (omega arith) l) ∙ used)

-- if each used slot is reached, no entry of a hash is after the first empty slot from its home
pub NoneBehind-reached : (h : ℕ) (slots : List WordPair) → ((i : ℕ) → i < length slots → is_used (nth_slot slots i) ≡ true → is_reached slots i ≡ true) → NoneBehind h slots
NoneBehind-reached h slots reached = HasNoneBehind-from is_used (has_hash h) (from_home h slots) empty_slot (λ j l used wanted.
    (let home = home_slot h (length slots) in
    let there = (home_slot h (length slots) + j) % length slots in
    let long = length-slots_from home slots in
    let home_in : home < length slots = omega arith in
    let back = turned-home home (length slots) j home_in (omega arith) in
    let at_in : there < length slots = omega arith in
    let here : get_or (from_home h slots) j empty_slot ≡ nth_slot slots there =
    ap (λ k. get_or (from_home h slots) k empty_slot) (sym back) ∙ get_or-slots_from home there slots empty_slot (omega arith) at_in in
    let used_there = ap is_used (sym here) ∙ used in
    let hash : (nth_slot slots there).first ≡ h = ap (λ (s : WordPair). s.first) (sym here) ∙ eqb-true (get_or (from_home h slots) j empty_slot).first h wanted in
    let near = reached-near slots there h at_in hash used_there (reached there at_in used_there) in
    subst (λ k. k < prefix_len is_used (from_home h slots)) back near))

-- and if no entry of its hash is after it, each is reached
pub reached-NoneBehind : (slots : List WordPair) (i : ℕ) → i < length slots → is_used (nth_slot slots i) ≡ true → NoneBehind (nth_slot slots i).first slots → is_reached slots i ≡ true
reached-NoneBehind slots i l used none =
    let h = (nth_slot slots i).first in
    let home = home_slot (nth_slot slots i).first (length slots) in
    let home_in : home < length slots = omega arith in
    let at = turned-lt home (length slots) i (omega arith) l in
    let long = length-slots_from home slots in
    let there = get_or-slots_from home i slots empty_slot (omega arith) l in
    let near = HasNoneBehind-at is_used (has_hash h) (from_home h slots) (turned home (length slots) i) empty_slot none (omega arith)
    (ap is_used there ∙ used) (eq-eqb _ _ (ap (λ (s : WordPair). s.first) there)) in
    let far = distance-turned home (length slots) i home_in l in
    all_before is_used (from_home h slots) (distance home (length slots) i) (subst (λ d. d < prefix_len is_used (from_home h slots)) (sym far) near)
