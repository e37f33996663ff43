-- Tables that lie in a file or outside of it, and the first one outside.
use Rattle.cdb_read.proofs.Words.{All-get_or, Bool, LiesInside, List, Pointer, StandsInside, WordPair, and_from, ap, arith, cases_Bool, cases_lt, cond-false, cond-true, false, get_or, get_or-map, has_slots, head_size, inl, inr, is_inside, is_outside, le-leb, le-ltb, length, length-map, lt-ltb, map, ne_eqb, not_from_false, not_from_true, pair_size, pointer_pair, subst, sym, true, ℕ, ◌*◌, ◌+◌, ◌<◌, ◌∙◌, ◌≡◌, ◌≤◌}
use Rattle.std.specs.Prelude.{All, Some, None, position, nat_lt, cond, not, ◌==◌, ◌&&◌}
use Rattle.std.proofs.lemmas.List.Sums.{position_or_len_is}
use Rattle.cdb_read.proofs.Probing.Beginnings.{is_inside-lies}

lies_is_inside : (w size : ℕ) (b : List ℕ) (p : WordPair) → length b ≡ size → LiesInside w size p → is_inside w b p ≡ true
lies_is_inside w size b p long lies =
    let within = lies.inside in
    and_from _ _ (le-leb (head_size w) p.first lies.behind) (le-leb (p.first + pair_size w * p.second) (length b) (omega arith))

-- a table that is inside isn't outside
pub not_outside : (w size : ℕ) (b : List ℕ) (p : WordPair) → length b ≡ size → StandsInside w size p → is_outside w b p ≡ false
not_outside w size b p long stands = elim (cases_Bool (has_slots p)) [
  | inl some ↦
      ap (λ x. x && not (is_inside w b p)) some ∙ not_from_true (is_inside w b p) (lies_is_inside w size b p long (stands some))
  | inr none ↦ ap (λ x. x && not (is_inside w b p)) none
]

-- and one that has slots and doesn't lie inside is
pub is_one_outside : (w size : ℕ) (b : List ℕ) (p : WordPair) → length b ≡ size → (p.second ≡ 0 → ⊥) → (LiesInside w size p → ⊥) → is_outside w b p ≡ true
is_one_outside w size b p long some outside =
    let not_inside : is_inside w b p ≡ false = elim (cases_Bool (is_inside w b p)) [
      | inl t ↦ absurd (outside (is_inside-lies w size b p (sym long) t))
      | inr f ↦ f
    ] in
    and_from _ _ (not_from_false (p.second == 0) (ne_eqb p.second 0 some)) (not_from_false (is_inside w b p) not_inside)

-- the first element that passes, and none
pub position_is : {X : Type 0} (p : X → Bool) (xs : List X) (i : ℕ) (d : X) → i < length xs → ((k : ℕ) → k < i → p (get_or xs k d) ≡ false) → p (get_or xs i d) ≡ true → position p xs ≡ Some i
position_is p xs i d low before here =
    let at = position_or_len_is p xs i d (omega arith) before (λ _. here) in
    ap (λ k. cond (nat_lt k (length xs)) (Some k) None) at ∙ cond-true _ (Some i) None (lt-ltb i (length xs) low)

pub position_none : {X : Type 0} (p : X → Bool) (xs : List X) (d : X) → ((k : ℕ) → k < length xs → p (get_or xs k d) ≡ false) → position p xs ≡ None
position_none p xs d all =
    let n = length xs in
    let at = position_or_len_is p xs (length xs) d (omega arith) all (λ past. absurd (omega arith)) in
    ap (λ k. cond (nat_lt k (length xs)) (Some k) None) at ∙ cond-false _ (Some n) None (le-ltb n n (omega arith))

-- tables that are inside, and one more
abbrev pub StandBefore : ℕ → ℕ → ℕ → List WordPair → Type 0
StandBefore w size n ps = (k : ℕ) (d : WordPair) → k < n → StandsInside w size (get_or ps k d)

pub stand_more : (w size n : ℕ) (ps : List Pointer) (d : Pointer) → n < length ps → StandBefore w size n (map pointer_pair ps) → StandsInside w size (pointer_pair (get_or ps n d)) → StandBefore w size (n + 1) (map pointer_pair ps)
stand_more w size n ps d low before here = λ k e less. elim (cases_lt k n) [
  | inl under ↦ before k e under
  | inr over ↦
      (let same : k ≡ n = omega arith in
      subst (λ i. StandsInside w size (get_or (map pointer_pair ps) i e)) (sym same)
      (subst (StandsInside w size) (sym (get_or-map pointer_pair ps n d e low)) here))
]

-- the tables before table n are inside, and table n isn't
pub first_outside_is : (w size n : ℕ) (b : List ℕ) (ps : List Pointer) (d : Pointer) → length b ≡ size → n < length ps → StandBefore w size n (map pointer_pair ps) → ((get_or ps n d).slots ≡ 0 → ⊥) → (LiesInside w size (pointer_pair (get_or ps n d)) → ⊥) → Some n ≡ position (is_outside w b) (map pointer_pair ps)
first_outside_is w size n b ps d long low before some outside =
    let q = pointer_pair d in
    let pairs = map pointer_pair ps in
    let l = length-map ps pointer_pair in
    let here : is_outside w b (get_or pairs n q) ≡ true = ap (is_outside w b) (get_or-map pointer_pair ps n d q low) ∙ is_one_outside w size b (pointer_pair (get_or ps n d)) long some outside in
    sym (position_is (is_outside w b) pairs n q (omega arith) (λ k less. not_outside w size b (get_or pairs k q) long (before k q less)) here)

pub none_outside_is : (w size n : ℕ) (b : List ℕ) (ps : List Pointer) → length b ≡ size → length ps ≤ n → StandBefore w size n (map pointer_pair ps) → None ≡ position (is_outside w b) (map pointer_pair ps)
none_outside_is w size n b ps long past all =
    let q : WordPair = record { first = 0; second = 0 } in
    let pairs = map pointer_pair ps in
    let l = length-map ps pointer_pair in
    sym (position_none (is_outside w b) pairs q (λ k low. not_outside w size b (get_or pairs k q) long (all k q (omega arith))))

-- a table of a head whose tables are all inside
pub stands_at : (w size now n : ℕ) (ps : List Pointer) (d : Pointer) → now ≡ size → n < length ps → All (StandsInside w size) (map pointer_pair ps) → StandsInside w now (pointer_pair (get_or ps n d))
stands_at w size now n ps d same low all =
    let q = pointer_pair d in
    let l = length-map ps pointer_pair in
    let here : StandsInside w size (pointer_pair (get_or ps n d)) = subst (StandsInside w size) (get_or-map pointer_pair ps n d q low) (All-get_or (StandsInside w size) (map pointer_pair ps) n q (omega arith) all) in
    subst (λ (k : ℕ). StandsInside w k (pointer_pair (get_or ps n d))) (sym same) here
