-- How many elements of a list pass a test.
use Rattle.cdb_read.proofs.Words.{All, All-cons, All-head, All-nil, All-tail, Bool, List, [], ap, append-nil, append_assoc, arith, cond, false, flat_map, inl, inr, refl, subst, suc, sum_by-append, sum_by-cons, sym, true, zero, ℕ, ◌++◌, ◌+◌, ◌<◌, ◌∙◌, ◌∷◌, ◌≡◌, ◌≤◌}
use Rattle.std.specs.List.{count_by, filter, list_any, range_with_len}
use Rattle.std.proofs.lemmas.Bool.{cases_Bool, cases_eq, cases_lt, cond-true, cond-false, both_ways, or_cases, or_from, or_parts}

pub count-cons : {X : Type 0} (p : X → Bool) (x : X) (xs : List X) → count_by p (x ∷ xs) ≡ cond {A = ℕ} (p x) 1 0 + count_by p xs
count-cons p x xs = sum_by-cons (λ y. cond {A = ℕ} (p y) 1 0) x xs

pub count-append : {X : Type 0} (p : X → Bool) (xs ys : List X) → count_by p (xs ++ ys) ≡ count_by p xs + count_by p ys
count-append p xs ys = sum_by-append (λ y. cond {A = ℕ} (p y) 1 0) xs ys

pub counts_one : (b : Bool) → b ≡ true → cond {A = ℕ} b 1 0 ≡ 1
counts_one b h = cond-true {A = ℕ} b 1 0 h

pub counts_none : (b : Bool) → b ≡ false → cond {A = ℕ} b 1 0 ≡ 0
counts_none b h = cond-false {A = ℕ} b 1 0 h

-- none passes
pub count_zero : {X : Type 0} (p : X → Bool) (xs : List X) → All (λ x. p x ≡ false) xs → count_by p xs ≡ 0
count_zero p [] none = refl
count_zero p (x ∷ xs) none =
    let both = count-cons p x xs in
    let here = counts_none (p x) (All-head (λ y. p y ≡ false) x xs none) in
    let rest = count_zero p xs (All-tail (λ y. p y ≡ false) x xs none) in
    omega arith

pub none_counted : {X : Type 0} (p : X → Bool) (xs : List X) → count_by p xs ≡ 0 → All (λ x. p x ≡ false) xs
none_counted p [] none = All-nil (λ y. p y ≡ false)
none_counted p (x ∷ xs) none =
    let both = count-cons p x xs in
    All-cons (λ y. p y ≡ false) x xs (elim (cases_Bool (p x)) [ inl t ↦ (let one = counts_one (p x) t in absurd (omega arith)) | inr f ↦ f ]) (none_counted p xs (omega arith))

-- true if one does
pub none_any : {X : Type 0} (p : X → Bool) (xs : List X) → count_by p xs ≡ 0 → list_any p xs ≡ false
none_any p [] none = refl
none_any p (x ∷ xs) none =
    let both = count-cons p x xs in
    or_from (p x) (list_any p xs) (elim (cases_Bool (p x)) [ inl t ↦ (let one = counts_one (p x) t in absurd (omega arith)) | inr f ↦ f ]) (none_any p xs (omega arith))

pub any_none : {X : Type 0} (p : X → Bool) (xs : List X) → list_any p xs ≡ false → count_by p xs ≡ 0
any_none p [] h = refl
any_none p (x ∷ xs) h =
    let parts = or_parts (p x) (list_any p xs) h in
    let both = count-cons p x xs in
    let here = counts_none (p x) parts.0 in
    let rest = any_none p xs parts.1 in
    omega arith

pub any_some : {X : Type 0} (p : X → Bool) (xs : List X) → list_any p xs ≡ true → 0 < count_by p xs
any_some p [] h = absurd (both_ways false refl h)
any_some p (x ∷ xs) h =
    let both = count-cons p x xs in
    elim (or_cases (p x) (list_any p xs) h) [
      | inl t ↦ (let one = counts_one (p x) t in omega arith)
      | inr r ↦ (let rest = any_some p xs r in omega arith)
    ]

-- those that pass are among those that a filter keeps
pub count-filter : {X : Type 0} (q p : X → Bool) (xs : List X) → All (λ s. q s ≡ true → p s ≡ true) xs → count_by q (filter p xs) ≡ count_by q xs
count-filter q p [] all = refl
count-filter q p (x ∷ xs) all =
    let both = count-cons q x xs in
    let ih = count-filter q p xs (All-tail (λ s. q s ≡ true → p s ≡ true) x xs all) in
    elim (cases_Bool (p x)) [
      | inl t ↦ (let front = count-cons q x (filter p xs) in ap (count_by q) (cond-true (p x) (x ∷ filter p xs) (filter p xs) t) ∙ omega arith)
      | inr f ↦
          (let other : q x ≡ false = elim (cases_Bool (q x)) [ inl y ↦ absurd (both_ways (p x) f (All-head (λ s. q s ≡ true → p s ≡ true) x xs all y)) | inr n ↦ n ] in
          let here = counts_none (q x) other in
          ap (count_by q) (cond-false (p x) (x ∷ filter p xs) (filter p xs) f) ∙ omega arith)
    ]

-- lists side by side, of which only one has such elements
count_lists_none : {X : Type 0} (q : X → Bool) (f : ℕ → List X) (a k : ℕ) → ((m : ℕ) → a ≤ m → m < a + k → count_by q (f m) ≡ 0) → count_by q (flat_map f (range_with_len a k)) ≡ 0
count_lists_none q f a zero none = refl
count_lists_none q f a (suc k) none =
    let both = count-append q (f a) (flat_map f (range_with_len (a + 1) k)) in
    let here = none a (omega arith) (omega arith) in
    let rest = count_lists_none q f (a + 1) k (λ m l u. none m (omega arith) (omega arith)) in
    omega arith

above : (a n : ℕ) → a ≤ n → (a ≡ n → ⊥) → a + 1 ≤ n
above a n l d = elim (cases_lt a n) [ inl h ↦ omega arith | inr h ↦ absurd (d (omega arith)) ]

pub count_lists_one : {X : Type 0} (q : X → Bool) (f : ℕ → List X) (n a k : ℕ) → a ≤ n → n < a + k → ((m : ℕ) → m < a + k → (m ≡ n → ⊥) → count_by q (f m) ≡ 0) → count_by q (flat_map f (range_with_len a k)) ≡ count_by q (f n)
count_lists_one q f n a zero l u others = absurd (omega arith)
count_lists_one q f n a (suc k) l u others =
    let both = count-append q (f a) (flat_map f (range_with_len (a + 1) k)) in
    elim (cases_eq a n) [
      | inl e ↦ (let rest = count_lists_none q f (a + 1) k (λ m low high. others m (omega arith) (λ s. omega arith)) in let here = ap (λ m. count_by q (f m)) e in omega arith)
      | inr d ↦ (let here = others a (omega arith) d in let rest = count_lists_one q f n (a + 1) k (above a n l d) (omega arith) (λ m high s. others m (omega arith) s) in omega arith)
    ]

-- one list more
pub lists_more : {X : Type 0} (f : ℕ → List X) (a k : ℕ) → flat_map f (range_with_len a (k + 1)) ≡ flat_map f (range_with_len a k) ++ f (a + k)
lists_more f a zero = append-nil (f a) ∙ (let e : a ≡ a + 0 = omega arith in ap f e)
lists_more f a (suc k) =
    let e : suc k + 1 ≡ suc (k + 1) = omega arith in
    let z : a + 1 + k ≡ a + suc k = omega arith in
    ap (λ n. flat_map f (range_with_len a n)) e
    ∙ ap (λ t. f a ++ t) (lists_more f (a + 1) k ∙ ap (λ n. flat_map f (range_with_len (a + 1) k) ++ f n) z)
    ∙ sym (append_assoc (f a) (flat_map f (range_with_len (a + 1) k)) (f (a + suc k)))

-- each list is a part of all
below : (n k : ℕ) → n < suc k → (n ≡ k → ⊥) → n < k
below n k l d = elim (cases_lt n k) [ inl h ↦ h | inr h ↦ absurd (d (omega arith)) ]

pub count_lists_part : {X : Type 0} (q : X → Bool) (f : ℕ → List X) (n k : ℕ) → n < k → count_by q (flat_map f (range_with_len 0 n)) + count_by q (f n) ≤ count_by q (flat_map f (range_with_len 0 k))
count_lists_part q f n zero l = absurd (omega arith)
count_lists_part q f n (suc k) l =
    let e : suc k ≡ k + 1 = omega arith in
    let z : 0 + k ≡ k = omega arith in
    let more = ap (λ m. count_by q (flat_map f (range_with_len 0 m))) e ∙ ap (count_by q) (lists_more f 0 k ∙ ap (λ m. flat_map f (range_with_len 0 k) ++ f m) z) ∙ count-append q (flat_map f (range_with_len 0 k)) (f k) in
    elim (cases_eq n k) [
      | inl i ↦ subst (λ m. count_by q (flat_map f (range_with_len 0 m)) + count_by q (f m) ≤ count_by q (flat_map f (range_with_len 0 (suc k)))) (sym i) (omega arith)
      | inr d ↦ (let ih = count_lists_part q f n k (below n k l d) in omega arith)
    ]
