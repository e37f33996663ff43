-- Entries that are gathered by their tables, 16 records at once.
use Rattle.std.proofs.Common.{◌≡◌, ◌<◌, ◌≤◌, ◌+◌, ◌-◌, ◌*◌, ◌/◌, ◌%◌, ◌^◌, ◌∙◌, ℕ, zero, suc, Bool, false, cond, not, List, [], ◌∷◌, ◌++◌, length, take, drop, map, get_or, replicate, drop-drop, ap, sym, refl, inl, inr, arith}
use Rattle.cdb_make.proofs.Words.{Roll, WordPair, count_trailing_zeros, drop-take, get_or_default, length-map, mask_l, nat_tests, places_in, roll_entries, rooms_of, table_number, tables_of, take_more, zip2}
use Rattle.std.specs.List.{prefix_len}
use Rattle.std.proofs.lemmas.Bool.{cases_Bool}
use Rattle.std.proofs.Math.Nat.{div-div-eq-div-mul, pow-suc, zero-div}
use Rattle.std.proofs.lemmas.Simd.{length-chunk, map-map, none_from_empty_mask, run_in_chunk_fails, trailing_mask_l, zip2_splat}
use Rattle.cdb_form.specs.declared.width.Width.{Ghosts as Widths}
use Rattle.cdb_make.specs.declared.finish.gathered.Gathered.{Gathered}
use Rattle.cdb_make.specs.Tables.{HaveRoomFor, is_among}
use Rattle.cdb_make.proofs.Tables.{get_or-entries_of, roll_long, tables_same}

-- two operations with one number each, and one between them, lane by lane
pub lanes_are : (f : ℕ → ℕ → ℕ) (g : ℕ → ℕ) (h : ℕ → ℕ → ℕ) (xs : List ℕ) (n y z : ℕ) → length xs ≡ n → zip2 h (map g (zip2 f xs (replicate n y))) (replicate n z) ≡ map (λ x. h (g (f x y)) z) xs
lanes_are f g h xs n y z long =
    let inner : map g (zip2 f xs (replicate n y)) ≡ map (λ x. g (f x y)) xs = ap (map g) (zip2_splat f xs n y long) ∙ map-map g (λ x. f x y) xs in
    ap (λ v. zip2 h v (replicate n z)) inner
    ∙ zip2_splat h (map (λ x. g (f x y)) xs) n z (length-map xs (λ x. g (f x y)) ∙ long)
    ∙ map-map (λ v. h v z) (λ x. g (f x y)) xs

-- two tests that are one
pub tests_same : (p q : ℕ → Bool) → ((x : ℕ) → p x ≡ q x) → (xs : List ℕ) → map p xs ≡ map q xs
tests_same p q same [] = refl
tests_same p q same (x ∷ xs) = ap (λ (b : Bool). b ∷ map p xs) (same x) ∙ ap (λ (v : List Bool). q x ∷ v) (tests_same p q same xs)

-- the mask of what is left of some lanes
pub mask_drop : (p : ℕ → Bool) (k : ℕ) (xs : List ℕ) → mask_l (map p xs) / 2 ^ k ≡ mask_l (map p (drop k xs))
mask_drop p zero xs = omega arith
mask_drop p (suc k) [] = zero-div (2 ^ suc k)
mask_drop p (suc k) (x ∷ xs) =
    let b : ℕ = cond (p x) 1 0 in
    let m : ℕ = mask_l (map p xs) in
    let half : (b + 2 * m) / 2 ≡ m = elim (cases_Bool (p x)) [
      | inl is ↦ ap (λ (t : Bool). (cond t 1 0 + 2 * m) / 2) is ∙ omega arith
      | inr not_so ↦ ap (λ (t : Bool). (cond t 1 0 + 2 * m) / 2) not_so ∙ omega arith
    ] in
    let twice : 2 ^ suc k ≡ 2 * 2 ^ k = omega arith in
    ap (λ (d : ℕ). (b + 2 * m) / d) twice ∙ sym (div-div-eq-div-mul (b + 2 * m) 2 (2 ^ k)) ∙ ap (λ (v : ℕ). v / 2 ^ k) half ∙ mask_drop p k xs

-- if a lane passes, the first lane that does is one of them
pub first_within : (p : ℕ → Bool) (xs : List ℕ) → (mask_l (map p xs) ≡ 0 → ⊥) → prefix_len (λ x. not (p x)) xs < length xs
first_within p [] some = absurd (some refl)
first_within p (x ∷ xs) some = elim (cases_Bool (p x)) [
  | inl is ↦ omega (arith, ap (λ (t : Bool). cond (not t) (1 + prefix_len (λ y. not (p y)) xs) 0) is)
  | inr not_so ↦ omega (arith, ap (λ (t : Bool). cond (not t) (1 + prefix_len (λ y. not (p y)) xs) 0) not_so, first_within p xs (λ none. some (ap (λ (t : Bool). cond t 1 0 + 2 * mask_l (map p xs)) not_so ∙ omega (arith, none))))
]

-- a record that is not among those of some tables is of none of them
apart : (first count n h : ℕ) → first + count ≤ 256 → is_among (first % 256) (count - 1) h ≡ false → n < count → first + n ≡ table_number h → ⊥
apart first count n h within out below at = grind (arith, nat_tests)

-- some records of a roll that are of none of some tables
pub skipped : {L : Type 0} {l : Widths L} (m : Roll L l) (first count n r : ℕ) → first + count ≤ 256 → n + r ≤ length m.hashes.items
    → ((k : ℕ) → n ≤ k → k < n + r → is_among (first % 256) (count - 1) (get_or m.hashes.items k 0) ≡ false)
    → tables_of (take n (roll_entries m)) first count ≡ tables_of (take (n + r) (roll_entries m)) first count
skipped m first count n zero within room out = ap (λ (k : ℕ). tables_of (take k (roll_entries m)) first count) (omega arith)
skipped m first count n (suc r) within room out =
    let es : List WordPair = roll_entries m in
    let k : ℕ = n + r in
    let h : ℕ = get_or m.hashes.items k 0 in
    let p : ℕ = get_or (places_in m.places) k 0 in
    let e : WordPair = record { first = h; second = p } in
    let lt : k < length m.hashes.items = omega (arith, room) in
    let is : get_or es k e ≡ e = get_or-entries_of m.hashes.items (places_in m.places) k h p e m.paired lt (get_or_default m.hashes.items k 0 h lt) (get_or_default (places_in m.places) k 0 p (omega (arith, m.paired, lt))) in
    let more : take (k + 1) es ≡ take k es ++ e ∷ [] = take_more es k e (omega (arith, roll_long m, lt)) ∙ ap (λ (q : WordPair). take k es ++ q ∷ []) is in
    skipped m first count n r within (omega (arith, room)) (λ j from below. out j from (omega (arith, below)))
    ∙ tables_same (take k es) e first count (λ j below at. apart first count j h within (out k (omega arith) (omega arith)) below at)
    ∙ ap (λ v. tables_of v first count) (sym more)
    ∙ ap (λ (j : ℕ). tables_of (take j es) first count) (omega arith)

-- ---- the bits that are set, each for a record from one to before another

-- which are left from `at` on
abbrev pub left_of : {L : Type 0} {l : Widths L} → Roll L l → ℕ → ℕ → ℕ → ℕ → ℕ
left_of m first count at end = mask_l (map (is_among (first % 256) (count - 1)) (take (end - at) (drop at m.hashes.items)))

-- no record before the first is of the tables
pub to_first : {L : Type 0} {l : Widths L} (m : Roll L l) (first count at end left : ℕ) → first + count ≤ 256 → at ≤ end → end ≤ at + 64 → end ≤ length m.hashes.items → left ≡ left_of m first count at end → (left ≡ 0 → ⊥)
    → (at + count_trailing_zeros 64 left < end) × (tables_of (take at (roll_entries m)) first count ≡ tables_of (take (at + count_trailing_zeros 64 left) (roll_entries m)) first count)
to_first m first count at end left within up few room is some =
    let p : ℕ → Bool = is_among (first % 256) (count - 1) in
    let n : ℕ = end - at in
    let lanes : List ℕ = take n (drop at m.hashes.items) in
    let inside : at + n ≤ length m.hashes.items = omega (arith, up, room) in
    let long : length lanes ≡ n = length-chunk at n m.hashes.items inside in
    let r : ℕ = count_trailing_zeros 64 left in
    let counted : r ≡ prefix_len (λ x. not (p x)) lanes = ap (count_trailing_zeros 64) is ∙ trailing_mask_l p 64 lanes (omega (arith, long, few)) (omega (arith, is, some)) in
    let lt : at + r < end = omega (arith, counted, long, up, first_within p lanes (λ none. some (is ∙ none))) in
    (lt, skipped m first count at r within (omega (arith, lt, room)) (run_in_chunk_fails p m.hashes.items at n r 0 inside counted))

-- and no record at all if no lane is left
pub to_end : {L : Type 0} {l : Widths L} (m : Roll L l) (first count at end left : ℕ) → first + count ≤ 256 → at ≤ end → end ≤ length m.hashes.items → left ≡ left_of m first count at end → left ≡ 0
    → tables_of (take at (roll_entries m)) first count ≡ tables_of (take end (roll_entries m)) first count
to_end m first count at end left within up room is none =
    let p : ℕ → Bool = is_among (first % 256) (count - 1) in
    let n : ℕ = end - at in
    let all : at + n ≡ end = omega (arith, up) in
    let inside : at + n ≤ length m.hashes.items = omega (arith, up, room) in
    skipped m first count at n within inside (none_from_empty_mask p m.hashes.items at n 0 inside (sym is ∙ none))
    ∙ ap (λ (k : ℕ). tables_of (take k (roll_entries m)) first count) all

-- the lanes after the first
pub behind_first : {L : Type 0} {l : Widths L} (m : Roll L l) (first count at end left r : ℕ) → at + r < end → left ≡ left_of m first count at end → left / 2 ^ r / 2 ≡ left_of m first count (at + (r + 1)) end
behind_first m first count at end left r lt is =
    let p : ℕ → Bool = is_among (first % 256) (count - 1) in
    let hs : List ℕ = m.hashes.items in
    let n : ℕ = end - (at + (r + 1)) in
    let more : end - at ≡ r + 1 + n = omega (arith, lt) in
    let next : suc r ≡ r + 1 = omega arith in
    let twice : 2 ^ r * 2 ≡ 2 ^ (r + 1) = sym (pow-suc 2 r) ∙ ap (λ (k : ℕ). 2 ^ k) next in
    div-div-eq-div-mul left (2 ^ r) 2
    ∙ ap (λ (d : ℕ). left / d) twice
    ∙ ap (λ (v : ℕ). v / 2 ^ (r + 1)) is
    ∙ ap (λ (k : ℕ). mask_l (map p (take k (drop at hs))) / 2 ^ (r + 1)) more
    ∙ mask_drop p (r + 1) (take (r + 1 + n) (drop at hs))
    ∙ ap (λ (v : List ℕ). mask_l (map p v)) (drop-take (r + 1) n (drop at hs))
    ∙ ap (λ (v : List ℕ). mask_l (map p (take n v))) (drop-drop (r + 1) at hs)

-- there is room as long as rooms and lists are the same
pub room_then : {L : Type 0} {l : Widths L} (m : Roll L l) (first : ℕ) (old new : List (Gathered L l)) → rooms_of new ≡ rooms_of old → length new ≡ length old → HaveRoomFor m first old → HaveRoomFor m first new
room_then m first old new rooms long room = λ k lt.
    let entries : length (get_or (tables_of (roll_entries m) first (length new)) k []) ≡ length (get_or (tables_of (roll_entries m) first (length old)) k []) = ap (λ (n : ℕ). length (get_or (tables_of (roll_entries m) first n) k [])) long in
    let same : get_or (rooms_of new) k 0 ≡ get_or (rooms_of old) k 0 = ap (λ (v : List ℕ). get_or v k 0) rooms in
    omega (arith, entries, same, room k (omega (arith, lt, long)))
