-- Entries of which no two have one place, and lists of slots that have each of them once.
use Rattle.cdb_read.proofs.Words.{All, All-cons, All-contains, All-filter, All-head, All-nil, All-tail, All-weaker, Bool, Contains-append_right, IsPermutation, KeyValue, List, WordPair, [], ap, append_assoc, arith, both_ways, cases_Bool, cond, cond-false, cond-true, entries_from, eq-eqb, eqb-false, eqb-true, false, flat_map, get_or, has_place, inl, inr, ne_eqb, record_size, refl, subst, suc, sym, table_number, true, zero, ℕ, ◌++◌, ◌+◌, ◌<◌, ◌∙◌, ◌∷◌, ◌≡◌, ◌≤◌, ◌⊎◌}
use Rattle.std.specs.List.{Contains, count_by, filter}
use Rattle.std.proofs.lemmas.List.Sorted.{IsPermutation-refl, IsPermutation-trans, IsPermutation-append_comm, IsPermutation-append_left, IsPermutation-append_right}
use Rattle.std.proofs.lemmas.List.Concat.{flat_map-append}
use Rattle.cdb_read.proofs.Lists.Counts.{count-cons, count-append, counts_one, counts_none, count_zero, none_counted}

-- no two have one place
abbrev HasOther : WordPair → WordPair → Type 0
HasOther e s = has_place e s ≡ false

abbrev pub AreApart : List WordPair → Type 0
AreApart [] = Unit {0}
AreApart (e ∷ es) = All (HasOther e) es × AreApart es

same_place : (s e : WordPair) → s ≡ e → s.second ≡ e.second
same_place s e h = ap (λ (q : WordPair). q.second) h

-- one of some entries, whose hash has table n
abbrev pub IsEntryOf : List WordPair → ℕ → WordPair → Type 0
IsEntryOf entries n s = Contains entries s × (table_number s.first ≡ n)

-- an element is the first or one of the others
pub Contains-cases : {X : Type 0} (x : X) (xs : List X) (y : X) → Contains (x ∷ xs) y → (x ≡ y) ⊎ Contains xs y
Contains-cases x xs y (zero, l, e) = inl e
Contains-cases x xs y (suc k, l, e) = inr (k, (omega arith), e)

pub Contains-filter : {X : Type 0} (p : X → Bool) (xs : List X) (y : X) → Contains xs y → p y ≡ true → Contains (filter p xs) y
Contains-filter p [] y (k, l, e) t = absurd (omega arith)
Contains-filter p (x ∷ xs) y c t = elim (Contains-cases x xs y c) [
  | inl e ↦ subst (λ l. Contains l y) (sym (cond-true (p x) (x ∷ filter p xs) (filter p xs) (ap p e ∙ t))) (0, (omega arith), e)
  | inr d ↦
      (let rest = Contains-filter p xs y d t in
      elim (cases_Bool (p x)) [
        | inl w ↦ subst (λ l. Contains l y) (sym (cond-true (p x) (x ∷ filter p xs) (filter p xs) w)) (Contains-append_right (x ∷ []) (filter p xs) y rest)
        | inr n ↦ subst (λ l. Contains l y) (sym (cond-false (p x) (x ∷ filter p xs) (filter p xs) n)) rest
      ])
]

pub AreApart-filter : (p : WordPair → Bool) (xs : List WordPair) → AreApart xs → AreApart (filter p xs)
AreApart-filter p [] apart = tt
AreApart-filter p (x ∷ xs) apart = elim (cases_Bool (p x)) [
  | inl t ↦ subst AreApart (sym (cond-true (p x) (x ∷ filter p xs) (filter p xs) t)) (All-filter p (HasOther x) xs apart.0, AreApart-filter p xs apart.1)
  | inr f ↦ subst AreApart (sym (cond-false (p x) (x ∷ filter p xs) (filter p xs) f)) (AreApart-filter p xs apart.1)
]

-- two with one place are one
pub apart_same : (xs : List WordPair) (s e : WordPair) → AreApart xs → Contains xs s → Contains xs e → has_place e s ≡ true → s ≡ e
apart_same [] s e apart (k, l, i) ce t = absurd (omega arith)
apart_same (x ∷ xs) s e apart cs ce t =
    let place = eqb-true s.second e.second t in
    elim (Contains-cases x xs s cs) [
      | inl is_s ↦ elim (Contains-cases x xs e ce) [
        | inl is_e ↦ sym is_s ∙ is_e
        | inr de ↦ absurd (both_ways (has_place x e) (All-contains (HasOther x) xs e apart.0 de) (eq-eqb e.second x.second (sym place ∙ sym (same_place x s is_s))))
      ]
      | inr ds ↦ elim (Contains-cases x xs e ce) [
        | inl is_e ↦ absurd (both_ways (has_place x s) (All-contains (HasOther x) xs s apart.0 ds) (eq-eqb s.second x.second (place ∙ sym (same_place x e is_e))))
        | inr de ↦ apart_same xs s e apart.1 ds de t
      ]
    ]

-- each occurs there once
pub count_apart : (xs : List WordPair) (e : WordPair) → AreApart xs → Contains xs e → count_by (has_place e) xs ≡ 1
count_apart [] e apart (k, l, i) = absurd (omega arith)
count_apart (x ∷ xs) e apart c =
    let both = count-cons (has_place e) x xs in
    elim (Contains-cases x xs e c) [
      | inl i ↦
          (let here = counts_one (has_place e x) (eq-eqb x.second e.second (same_place x e i)) in
          let rest = count_zero (has_place e) xs (subst (λ q. All (HasOther q) xs) i apart.0) in
          omega arith)
      | inr d ↦
          (let away = All-contains (HasOther x) xs e apart.0 d in
          let here = counts_none (has_place e x) (ne_eqb x.second e.second (λ s. eqb-false e.second x.second away (sym s))) in
          let ih = count_apart xs e apart.1 d in
          omega arith)
    ]

-- the entries of records: their places rise
pub entries-above : (w at : ℕ) (rs : List KeyValue) → All (λ e. at ≤ e.second) (entries_from w at rs)
unfolding entries_from
entries-above w at [] = All-nil (λ e. at ≤ e.second)
entries-above w at (r ∷ rs) =
    let same : at ≤ at = omega arith in
    All-cons (λ e. at ≤ e.second) _ (entries_from w (at + record_size w r) rs) same
    (All-weaker (λ e. at + record_size w r ≤ e.second) (λ e. at ≤ e.second) (λ e h. omega arith) (entries_from w (at + record_size w r) rs) (entries-above w (at + record_size w r) rs))

pub AreApart-entries : (w at : ℕ) (rs : List KeyValue) → 0 < w → AreApart (entries_from w at rs)
unfolding entries_from
AreApart-entries w at [] some = tt
AreApart-entries w at (r ∷ rs) some = (
  All-weaker (λ e. at + record_size w r ≤ e.second) _ (λ s h. ne_eqb s.second at (λ e. omega arith)) (entries_from w (at + record_size w r) rs) (entries-above w (at + record_size w r) rs),
  AreApart-entries w (at + record_size w r) rs some,
)

-- a list in which some element passes, cut there
record Cut {X : Type 0} (p : X → Bool) (xs : List X) : Type 0 where
  before : List X
  here : X
  after : List X
  is : xs ≡ before ++ here ∷ after
  passes : p here ≡ true

cut : {X : Type 0} (p : X → Bool) (xs : List X) → 0 < count_by p xs → Cut p xs
cut p [] some = absurd (omega arith)
cut p (x ∷ xs) some = elim (cases_Bool (p x)) [
  | inl t ↦ record { before = []; here = x; after = xs; is = refl; passes = t }
  | inr f ↦
      (let both = count-cons p x xs in
      let none = counts_none (p x) f in
      let c : Cut p xs = cut p xs (omega arith) in
      record { before = x ∷ c.before; here = c.here; after = c.after; is = ap (λ t. x ∷ t) c.is; passes = c.passes })
]

all_around : {X : Type 0} (P : X → Type 0) (xs : List X) (y : X) (ys : List X) → All P (xs ++ y ∷ ys) → P y × All P (xs ++ ys)
all_around P [] y ys all = (All-head P y ys all, All-tail P y ys all)
all_around P (x ∷ xs) y ys all =
    let rest = all_around P xs y ys (All-tail P x (xs ++ y ∷ ys) all) in
    (rest.0, All-cons P x (xs ++ ys) (All-head P x (xs ++ y ∷ ys) all) rest.1)

-- what the elements give, with one of them put first
put_first : {X Y : Type 0} (g : X → List Y) (x : X) (rest before after : List X) → IsPermutation (flat_map g rest) (flat_map g (before ++ after)) → IsPermutation (g x ++ flat_map g rest) (flat_map g (before ++ x ∷ after))
put_first g x rest before after same =
    let left = flat_map g before in
    let right = flat_map g after in
    let front : IsPermutation (g x ++ flat_map g rest) (g x ++ (left ++ right)) =
    IsPermutation-append_right (g x) (flat_map g rest) (left ++ right) (subst (IsPermutation (flat_map g rest)) (flat_map-append g before after) same) in
    let probe : IsPermutation ((g x ++ left) ++ right) ((left ++ g x) ++ right) =
    IsPermutation-append_left right (g x ++ left) (left ++ g x) (IsPermutation-append_comm (g x) left) in
    let there : flat_map g (before ++ x ∷ after) ≡ left ++ (g x ++ right) = flat_map-append g before (x ∷ after) in
    let turned : IsPermutation (g x ++ (left ++ right)) (flat_map g (before ++ x ∷ after)) =
    subst (λ l. IsPermutation l (flat_map g (before ++ x ∷ after))) (append_assoc (g x) left right)
    (subst (IsPermutation ((g x ++ left) ++ right)) (append_assoc left (g x) right ∙ sym there) probe) in
    IsPermutation-trans (g x ++ flat_map g rest) (g x ++ (left ++ right)) (flat_map g (before ++ x ∷ after)) front turned

-- entries apart, and slots that are such entries and have the place of each once: both give the
-- same, in some order
pub same_entries : {Y : Type 0} (g : WordPair → List Y) (xs ys : List WordPair) → AreApart xs → All (Contains xs) ys → All (λ x. count_by (has_place x) ys ≡ 1) xs → IsPermutation (flat_map g xs) (flat_map g ys)
same_entries g [] [] apart within once = IsPermutation-refl []
same_entries g [] (y ∷ ys) apart within once = let c = All-head (Contains []) y ys within in absurd (omega (arith, c.1))
same_entries g (x ∷ xs) ys apart within once =
    let one = All-head (λ z. count_by (has_place z) ys ≡ 1) x xs once in
    let c : Cut (has_place x) ys = cut (has_place x) ys (omega arith) in
    let parts = all_around (Contains (x ∷ xs)) c.before c.here c.after (subst (All (Contains (x ∷ xs))) c.is within) in
    let same : x ≡ c.here = elim (Contains-cases x xs c.here parts.0) [
      | inl e ↦ e
      | inr d ↦ absurd (both_ways (has_place x c.here) (All-contains (HasOther x) xs c.here apart.0 d) c.passes)
    ] in
    let total : (p : WordPair → Bool) → count_by p ys ≡ cond {A = ℕ} (p c.here) 1 0 + count_by p (c.before ++ c.after) = λ p.
    (let a = count-append p c.before (c.here ∷ c.after) in
    let b = count-append p c.before c.after in
    let d = count-cons p c.here c.after in
    ap (count_by p) c.is ∙ omega arith) in
    let others : All (HasOther x) (c.before ++ c.after) = none_counted (has_place x) (c.before ++ c.after)
    (let t = total (has_place x) in let here = counts_one (has_place x c.here) c.passes in omega arith) in
    let left : All (Contains xs) (c.before ++ c.after) = λ k d l.
    elim (Contains-cases x xs (get_or (c.before ++ c.after) k d) (parts.1 k d l)) [
      | inl e ↦ absurd (both_ways (has_place x (get_or (c.before ++ c.after) k d)) (others k d l) (eq-eqb _ _ (sym (same_place x (get_or (c.before ++ c.after) k d) e))))
      | inr i ↦ i
    ] in
    let once_left : All (λ z. count_by (has_place z) (c.before ++ c.after) ≡ 1) xs = λ k d l.
    (let z = get_or xs k d in
    let t = total (has_place z) in
    let all = All-tail (λ q. count_by (has_place q) ys ≡ 1) x xs once k d l in
    let away = counts_none (has_place z c.here) (ne_eqb c.here.second z.second (λ e. eqb-false z.second x.second (apart.0 k d l) (sym e ∙ sym (same_place x c.here same)))) in
    omega arith) in
    subst (IsPermutation (g x ++ flat_map g xs)) (ap (λ q. flat_map g (c.before ++ q ∷ c.after)) same ∙ sym (ap (flat_map g) c.is))
    (put_first g x xs c.before c.after (same_entries g xs (c.before ++ c.after) apart.1 left once_left))
