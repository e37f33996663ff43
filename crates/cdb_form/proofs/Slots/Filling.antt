-- The search for an empty slot.
use Rattle.std.proofs.Common.{◌≡◌, ℕ, ◌+◌, ◌-◌, ◌%◌, ◌<◌, ◌≤◌, Bool, true, eqb, List, [], ◌∷◌, length, take, drop, get_or, refl, sym, ap, ◌∙◌, ◌++◌, arith, min, inl, inr, length-drop, fold, replicate, slice_set}
use Rattle.cdb_form.proofs.Words.{WordPair, cases_lt, fold-append, length-take-le, nat_tests, prefix_len, prefix_len-le-length, take-append-drop, take_more}
use Rattle.std.proofs.Math.Nat.{mod-eq_of_lt, add-mod_left}
use Rattle.std.proofs.lemmas.List.Folds.{prefix_len-append}
use Rattle.cdb_form.specs.Format.{is_used, slots_from, slots_with, filled_slots, empty_slot, home_slot}

-- the first empty slot is at home or after it
pub first_behind : (p : WordPair → Bool) (xs : List WordPair) (home n b : ℕ) → length xs ≡ n → home < n → b ≡ prefix_len p (drop home xs) → b < n - home → home + b ≡ (home + prefix_len p (slots_from home xs)) % n
first_behind p xs home n b l h e small =
    let d : length (drop home xs) ≡ n - home = simp length-drop (omega arith) in
    let other : (eqb (prefix_len p (drop home xs)) (length (drop home xs)) ≡ true → ⊥) = grind (arith, nat_tests) in
    let s = prefix_len-append p (drop home xs) (take home xs) in
    let q : prefix_len p (slots_from home xs) ≡ b = grind (arith, nat_tests) in
    let small : home + prefix_len p (slots_from home xs) < n = omega arith in
    omega (arith, mod-eq_of_lt small)

-- or before it
pub first_before : (p : WordPair → Bool) (xs : List WordPair) (home n b a : ℕ) → length xs ≡ n → home < n → b ≡ prefix_len p (drop home xs) → n - home ≤ b → a ≡ prefix_len p (take home xs) → (a < n) × (a ≡ (home + prefix_len p (slots_from home xs)) % n)
first_before p xs home n b a l h e large ea =
    let d : length (drop home xs) ≡ n - home = simp length-drop (omega arith) in
    let le = prefix_len-le-length p (drop home xs) in
    let le' = prefix_len-le-length p (take home xs) in
    let lt : length (take home xs) ≡ home = length-take-le home xs (omega arith) in
    let s = prefix_len-append p (drop home xs) (take home xs) in
    let q : prefix_len p (slots_from home xs) ≡ n - home + a = grind (arith, nat_tests) in
    let small : a < n = omega arith in
    (small, let total : home + prefix_len p (slots_from home xs) ≡ n + a = omega arith in sym (ap (λ (m : ℕ). m % n) total ∙ add-mod_left n a ∙ mod-eq_of_lt small))

-- from the start on as many are used as before home, if all from home on are
pub before_home : (p : WordPair → Bool) (xs : List WordPair) (home n : ℕ) → length xs ≡ n → home < n → n ≤ home + prefix_len p (drop home xs) → min (prefix_len p xs) home ≡ prefix_len p (take home xs)
before_home p xs home n l h large =
    let d : length (drop home xs) ≡ n - home = simp length-drop (omega arith) in
    let lt : length (take home xs) ≡ home = length-take-le home xs (omega arith) in
    let le = prefix_len-le-length p (take home xs) in
    let s = prefix_len-append p (take home xs) (drop home xs) in
    let whole : prefix_len p (take home xs ++ drop home xs) ≡ prefix_len p xs = ap (prefix_len p) (take-append-drop home xs) in
    elim (cases_lt (prefix_len p (take home xs)) home) [
      | inl low ↦ let same : prefix_len p xs ≡ prefix_len p (take home xs) = grind (arith, nat_tests) in omega (arith, same, low)
      | inr high ↦ let more : prefix_len p xs ≡ home + prefix_len p (drop home xs) = grind (arith, nat_tests) in omega (arith, more, high, le, lt)
    ]

pub first_behind_slots : (slots : List WordPair) (home b : ℕ) → home < length slots → b ≡ home + prefix_len is_used (drop home slots) → b < length slots → b ≡ (home + prefix_len is_used (slots_from home slots)) % length slots
first_behind_slots slots home b h e small = e ∙ first_behind is_used slots home (length slots) (prefix_len is_used (drop home slots)) refl h refl (omega (arith, e, small, h))

pub first_before_slots : (slots : List WordPair) (home b a m : ℕ) → home < length slots → b ≡ home + prefix_len is_used (drop home slots) → length slots ≤ b → a ≡ 0 + prefix_len is_used (drop 0 slots) → m ≡ min a home
    → m ≡ (home + prefix_len is_used (slots_from home slots)) % length slots
first_before_slots slots home b a m h e large ea em =
    let all : a ≡ prefix_len is_used slots = omega (arith, ea) in
    let before : m ≡ prefix_len is_used (take home slots) = em ∙ ap (λ (n : ℕ). min n home) all ∙ before_home is_used slots home (length slots) refl h (omega (arith, e, large)) in
    (first_before is_used slots home (length slots) (prefix_len is_used (drop home slots)) m refl h refl (omega (arith, e, large)) before).1

-- one entry more
pub entry_put : (slots : List WordPair) (e : WordPair) (home place n : ℕ) → n ≡ length slots → home ≡ home_slot e.first n → place ≡ (home + prefix_len is_used (slots_from home slots)) % length slots → slice_set slots place e ≡ slots_with slots e
unfolding slots_with
entry_put slots e home place n en eh ep =
    let h : home ≡ home_slot e.first (length slots) = eh ∙ ap (home_slot e.first) en in
    let p : place ≡ (home_slot e.first (length slots) + prefix_len is_used (slots_from (home_slot e.first (length slots)) slots)) % length slots =
    ep ∙ ap (λ (m : ℕ). (m + prefix_len is_used (slots_from m slots)) % length slots) h in
    ap (λ (m : ℕ). slice_set slots m e) p

-- the slots that no entry fills, and those with one more
pub filled_nothing : (n : ℕ) (slots : List WordPair) → slots ≡ replicate n empty_slot → slots ≡ filled_slots n []
unfolding filled_slots
filled_nothing n slots e = e

pub filled_next : (n i : ℕ) (slots es : List WordPair) (e : WordPair) (new : List WordPair) → i < length es → e ≡ get_or es i e → slots ≡ filled_slots n (take i es) → new ≡ slots_with slots e → new ≡ filled_slots n (take (i + 1) es)
unfolding filled_slots
filled_next n i slots es e new h is before put =
    put ∙ ap (λ s. slots_with s e) before
    ∙ ap (λ x. slots_with (fold slots_with (replicate n empty_slot) (take i es)) x) is
    ∙ sym (ap (fold slots_with (replicate n empty_slot)) (take_more es i e h) ∙ fold-append slots_with (replicate n empty_slot) (take i es) (get_or es i e ∷ []))
