-- A list read from its front up to the first element that is not used: what it has that is wanted,
-- and how that changes as elements are put in.
use Rattle.cdb_read.proofs.Words.{Bool, List, [], ap, arith, cases_Bool, cond, cond-false, cond-true, false, get_or, inl, inr, length, refl, set, suc, sym, take_while-cons, true, zero, ℕ, ⊤, ◌++◌, ◌+◌, ◌<◌, ◌∙◌, ◌∷◌, ◌≡◌}
use Rattle.std.specs.List.{filter, take_while, prefix_len, count_by}
use Rattle.cdb_read.proofs.Lists.Counts.{count-cons, counts_one}

-- the wanted elements before the first that is not used
unfoldable pub met : {X : Type 0} → (X → Bool) → (X → Bool) → List X → List X
met used wanted xs = filter wanted (take_while used xs)

-- no used element is wanted
abbrev pub HasNone : {X : Type 0} → (X → Bool) → (X → Bool) → List X → Type 0
HasNone used wanted [] = ⊤
HasNone used wanted (x ∷ xs) = (used x ≡ true → wanted x ≡ false) × HasNone used wanted xs

-- no used element after the first one that is not used is wanted
abbrev pub HasNoneBehind : {X : Type 0} → (X → Bool) → (X → Bool) → List X → Type 0
HasNoneBehind used wanted [] = ⊤
HasNoneBehind used wanted (x ∷ xs) = (used x ≡ true → HasNoneBehind used wanted xs) × (used x ≡ false → HasNone used wanted xs)

pub met-used : {X : Type 0} (u g : X → Bool) (x : X) (xs : List X) → u x ≡ true → met u g (x ∷ xs) ≡ cond (g x) (x ∷ met u g xs) (met u g xs)
unfolding met
met-used u g x xs h = ap (filter g) (take_while-cons u x xs ∙ cond-true (u x) (x ∷ take_while u xs) [] h)

pub met-unused : {X : Type 0} (u g : X → Bool) (x : X) (xs : List X) → u x ≡ false → met u g (x ∷ xs) ≡ []
unfolding met
met-unused u g x xs h = ap (filter g) (take_while-cons u x xs ∙ cond-false (u x) (x ∷ take_while u xs) [] h)

pub met-none : {X : Type 0} (u g : X → Bool) → met u g [] ≡ []
unfolding met
met-none u g = refl

pub met-HasNone : {X : Type 0} (u g : X → Bool) (xs : List X) → HasNone u g xs → met u g xs ≡ []
met-HasNone u g [] a = met-none u g
met-HasNone u g (x ∷ xs) a = elim (cases_Bool (u x)) [
  | inl t ↦ met-used u g x xs t ∙ cond-false (g x) (x ∷ met u g xs) (met u g xs) (a.0 t) ∙ met-HasNone u g xs a.1
  | inr f ↦ met-unused u g x xs f
]

pub HasNoneBehind-HasNone : {X : Type 0} (u g : X → Bool) (xs : List X) → HasNone u g xs → HasNoneBehind u g xs
HasNoneBehind-HasNone u g [] a = tt
HasNoneBehind-HasNone u g (x ∷ xs) a = (λ t. HasNoneBehind-HasNone u g xs a.1, λ f. a.1)

pub HasNone-set : {X : Type 0} (u g : X → Bool) (xs : List X) (i : ℕ) (e : X) → g e ≡ false → HasNone u g xs → HasNone u g (set xs i e)
HasNone-set u g [] i e h a = tt
HasNone-set u g (x ∷ xs) zero e h a = (λ t. h, a.1)
HasNone-set u g (x ∷ xs) (suc i) e h a = (a.0, HasNone-set u g xs i e h a.1)

cond_push : {X : Type 0} (b : Bool) (x : X) (xs ys : List X) → cond b (x ∷ (xs ++ ys)) (xs ++ ys) ≡ cond b (x ∷ xs) xs ++ ys
cond_push true x xs ys = refl
cond_push false x xs ys = refl

prefix_len-used : {X : Type 0} (u : X → Bool) (x : X) (xs : List X) (j : ℕ) → u x ≡ true → prefix_len u (x ∷ xs) ≡ suc j → prefix_len u xs ≡ j
prefix_len-used u x xs j t e = let h = cond-true (u x) (1 + prefix_len u xs) 0 t in omega arith

prefix_len-unused : {X : Type 0} (u : X → Bool) (x : X) (xs : List X) (j : ℕ) → u x ≡ false → prefix_len u (x ∷ xs) ≡ suc j → ⊥
prefix_len-unused u x xs j f e = let h = cond-false (u x) (1 + prefix_len u xs) 0 f in omega arith

not_wanted : (b : Bool) → (b ≡ true → ⊥) → b ≡ false
not_wanted true h = absurd (h refl)
not_wanted false h = refl

-- an element more in an unused place: if it is wanted, in the first one
pub met-set : {X : Type 0} (u g : X → Bool) (xs : List X) (j : ℕ) (e d : X) → j < length xs → u (get_or xs j d) ≡ false → u e ≡ true → (g e ≡ true → prefix_len u xs ≡ j) → HasNoneBehind u g xs
    → met u g (set xs j e) ≡ met u g xs ++ cond (g e) (e ∷ []) []
met-set u g [] j e d l free ue first b = absurd (omega arith)
met-set u g (x ∷ xs) zero e d l free ue first b =
    let none = met-HasNone u g xs (b.1 free) in
    met-used u g e xs ue ∙ ap (λ t. cond (g e) (e ∷ t) t) none ∙ sym (ap (λ t. t ++ cond (g e) (e ∷ []) []) (met-unused u g x xs free))
met-set u g (x ∷ xs) (suc j) e d l free ue first b = elim (cases_Bool (u x)) [
  | inl t ↦
      (let ih = met-set u g xs j e d (omega arith) free ue (λ w. prefix_len-used u x xs j t (first w)) (b.0 t) in
      met-used u g x (set xs j e) t ∙ ap (λ m. cond (g x) (x ∷ m) m) ih ∙ cond_push (g x) x (met u g xs) (cond (g e) (e ∷ []) []) ∙ sym (ap (λ m. m ++ cond (g e) (e ∷ []) []) (met-used u g x xs t)))
  | inr f ↦
      (let other = not_wanted (g e) (λ w. prefix_len-unused u x xs j f (first w)) in
      met-unused u g x (set xs j e) f ∙ sym (cond-false (g e) (e ∷ []) [] other) ∙ sym (ap (λ m. m ++ cond (g e) (e ∷ []) []) (met-unused u g x xs f)))
]

pub HasNoneBehind-set : {X : Type 0} (u g : X → Bool) (xs : List X) (j : ℕ) (e d : X) → j < length xs → u (get_or xs j d) ≡ false → u e ≡ true → (g e ≡ true → prefix_len u xs ≡ j) → HasNoneBehind u g xs
    → HasNoneBehind u g (set xs j e)
HasNoneBehind-set u g [] j e d l free ue first b = tt
HasNoneBehind-set u g (x ∷ xs) zero e d l free ue first b = (λ t. HasNoneBehind-HasNone u g xs (b.1 free), λ f. b.1 free)
HasNoneBehind-set u g (x ∷ xs) (suc j) e d l free ue first b = (
  λ t. HasNoneBehind-set u g xs j e d (omega arith) free ue (λ w. prefix_len-used u x xs j t (first w)) (b.0 t),
  λ f. HasNone-set u g xs j e (not_wanted (g e) (λ w. prefix_len-unused u x xs j f (first w))) (b.1 f),
)

-- a list with fewer used elements than elements has an unused one
pub prefix_len-lt : {X : Type 0} (u : X → Bool) (xs : List X) → count_by u xs < length xs → prefix_len u xs < length xs
prefix_len-lt u [] h = absurd (omega arith)
prefix_len-lt u (x ∷ xs) h =
    let both = count-cons u x xs in
    elim (cases_Bool (u x)) [
      | inl t ↦
          (let one = counts_one (u x) t in
          let ih = prefix_len-lt u xs (omega arith) in
          let more = cond-true (u x) (1 + prefix_len u xs) 0 t in
          omega arith)
      | inr f ↦ (let none = cond-false (u x) (1 + prefix_len u xs) 0 f in omega arith)
    ]
