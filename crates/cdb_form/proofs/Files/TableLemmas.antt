-- The tables that have slots, as the code's pointers give them.
use Rattle.std.proofs.Common.{◌≡◌, ℕ, ◌+◌, Bool, true, false, cond, List, [], ◌∷◌, length, map, refl, ap, ◌∙◌, arith, inl, inr}
use Rattle.std.specs.Prelude.{◌==◌, not, ◌&&◌, nat_lt, filter, min, position, unwrap_or, Some, None}
use Rattle.cdb_form.proofs.Words.{Pointer, WordPair, cases_lt, cond-false, cond-true, first_table_at, has_slots, head_at, head_size, le-ltb, least_place, lt-ltb, pointer_pair, position_or_len, prefix_len-le-length, record_end, reduce}

abbrev pub is_used : Pointer → Bool
is_used p = not (p.slots == 0)

abbrev pub is_used_at : ℕ → Pointer → Bool
is_used_at place p = not (p.slots == 0) && (p.place == place)

kept : (b : Bool) (p : Pointer) (ps : List Pointer) (qs : List WordPair) → map (λ (q : Pointer). q.place) ps ≡ map (λ (q : WordPair). q.first) qs
    → map (λ (q : Pointer). q.place) (cond b (p ∷ ps) ps) ≡ map (λ (q : WordPair). q.first) (cond b (pointer_pair p ∷ qs) qs)
kept true p ps qs e = ap (λ t. p.place ∷ t) e
kept false p ps qs e = e

used_places : (ps : List Pointer) → map (λ (p : Pointer). p.place) (filter is_used ps) ≡ map (λ (p : WordPair). p.first) (filter has_slots (map pointer_pair ps))
used_places [] = refl
used_places (p ∷ ps) = kept (is_used p) p (filter is_used ps) (filter has_slots (map pointer_pair ps)) (used_places ps)

-- the least place
pub least_used : (none : ℕ) (ps : List Pointer) → unwrap_or (reduce min (map (λ (p : Pointer). p.place) (filter is_used ps))) none ≡ least_place none (map pointer_pair ps)
least_used none ps = ap (λ xs. unwrap_or (reduce min xs) none) (used_places ps)

position_or : {X : Type 0} (p : X → Bool) (xs : List X) → unwrap_or (position p xs) (length xs) ≡ position_or_len p xs
position_or p xs =
    let k = position_or_len p xs in
    let within = prefix_len-le-length (λ x. not (p x)) xs in
    elim (cases_lt (position_or_len p xs) (length xs)) [
      | inl low ↦ ap (λ o. unwrap_or o (length xs)) (cond-true (nat_lt (position_or_len p xs) (length xs)) (Some (position_or_len p xs)) None (lt-ltb (position_or_len p xs) (length xs) low))
      | inr high ↦ ap (λ o. unwrap_or o (length xs)) (cond-false (nat_lt (position_or_len p xs) (length xs)) (Some (position_or_len p xs)) None (le-ltb (position_or_len p xs) (length xs) high)) ∙ omega arith
    ]

first_of_words : (at : ℕ) (ps : List Pointer) → position_or_len (is_used_at at) ps ≡ first_table_at at (map pointer_pair ps)
first_of_words at [] = refl
first_of_words at (p ∷ ps) = ap (λ n. cond (not (is_used_at at p)) (1 + n) 0) (first_of_words at ps)

-- the first one at a place
pub first_used : (at : ℕ) (ps : List Pointer) → unwrap_or (position (is_used_at at) ps) (length ps) ≡ first_table_at at (map pointer_pair ps)
first_used at ps = position_or (is_used_at at) ps ∙ first_of_words at ps

-- where the records of a file end, by the pointers that were read from its head
pub end_told : (w result : ℕ) (xs : List ℕ) (ps : List Pointer) → map pointer_pair ps ≡ head_at w xs → result ≡ least_place (head_size w) (map pointer_pair ps) → result ≡ record_end w xs
unfolding record_end
end_told w result xs ps told r = r ∙ ap (least_place (head_size w)) told

-- and the first table that begins there
pub table_told : (w end result : ℕ) (xs : List ℕ) (ps : List Pointer) → map pointer_pair ps ≡ head_at w xs → result ≡ first_table_at end (map pointer_pair ps) → end ≡ record_end w xs
    → result ≡ first_table_at (record_end w xs) (head_at w xs)
table_told w end result xs ps told r at = r ∙ ap (first_table_at end) told ∙ ap (λ (n : ℕ). first_table_at n (head_at w xs)) at
