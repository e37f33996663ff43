-- Faults in turn: of one thing after the other.
use Rattle.cdb_read.proofs.Words.{Damage, List, None, Option, Some, [], ap, arith, first_of, option_or, range_with_len, refl, suc, sym, zero, ℕ, ◌++◌, ◌+◌, ◌-◌, ◌<◌, ◌∙◌, ◌∷◌, ◌≡◌}

-- numbers in a row
pub range_split : (a k m : ℕ) → range_with_len a (k + m) ≡ range_with_len a k ++ range_with_len (a + k) m
range_split a zero m = let e : 0 + m ≡ m = omega arith in let z : a ≡ a + 0 = omega arith in ap (range_with_len a) e ∙ ap (λ b. range_with_len b m) z
range_split a (suc k) m =
    let e : suc k + m ≡ suc (k + m) = omega arith in
    let z : a + 1 + k ≡ a + suc k = omega arith in
    ap (range_with_len a) e ∙ ap (λ t. a ∷ t) (range_split (a + 1) k m ∙ ap (λ b. range_with_len (a + 1) k ++ range_with_len b m) z)

option_or-option_or : (a b c : Option Damage) → option_or (option_or a b) c ≡ option_or a (option_or b c)
option_or-option_or None b c = refl
option_or-option_or (Some x) b c = refl

first_of-append : {X : Type 0} (f : X → Option Damage) (xs ys : List X) → first_of f (xs ++ ys) ≡ option_or (first_of f xs) (first_of f ys)
unfolding first_of
first_of-append f [] ys = refl
first_of-append f (x ∷ xs) ys = ap (option_or (f x)) (first_of-append f xs ys) ∙ sym (option_or-option_or (f x) (first_of f xs) (first_of f ys))

pub first_of-cons : {X : Type 0} (f : X → Option Damage) (x : X) (xs : List X) → first_of f (x ∷ xs) ≡ option_or (f x) (first_of f xs)
unfolding first_of
first_of-cons f x xs = refl

pub first_of-nil : {X : Type 0} (f : X → Option Damage) → first_of f [] ≡ None
unfolding first_of
first_of-nil f = refl

-- none before number k, and at it none or the first
pub none_next : (f : ℕ → Option Damage) (k : ℕ) → first_of f (range_with_len 0 k) ≡ None → f k ≡ None → first_of f (range_with_len 0 (k + 1)) ≡ None
none_next f k before here =
    let z : 0 + k ≡ k = omega arith in
    ap (first_of f) (range_split 0 k 1) ∙ first_of-append f (range_with_len 0 k) (range_with_len (0 + k) 1)
    ∙ ap (λ x. option_or x (first_of f ((0 + k) ∷ []))) before
    ∙ ap (λ j. first_of f (j ∷ [])) z
    ∙ first_of-cons f k [] ∙ ap (λ x. option_or x (first_of f [])) here ∙ first_of-nil f

pub first_next : (f : ℕ → Option Damage) (k m : ℕ) (d : Damage) → k < m → first_of f (range_with_len 0 k) ≡ None → f k ≡ Some d → first_of f (range_with_len 0 m) ≡ Some d
first_next f k m d l before here =
    let z : 0 + k ≡ k = omega arith in
    let e : m ≡ k + suc (m - k - 1) = omega arith in
    ap (λ j. first_of f (range_with_len 0 j)) e ∙ ap (first_of f) (range_split 0 k (suc (m - k - 1)))
    ∙ first_of-append f (range_with_len 0 k) (range_with_len (0 + k) (suc (m - k - 1)))
    ∙ ap (λ x. option_or x (first_of f (range_with_len (0 + k) (suc (m - k - 1))))) before
    ∙ ap (λ j. first_of f (range_with_len j (suc (m - k - 1)))) z
    ∙ first_of-cons f k (range_with_len (k + 1) (m - k - 1))
    ∙ ap (λ x. option_or x (first_of f (range_with_len (k + 1) (m - k - 1)))) here
