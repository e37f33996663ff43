-- The pointers to the tables of some lists of entries.
use Rattle.cdb_make.proofs.Words.{List, WordPair, [], ap, arith, get_or, get_or-map, length, length-map, length-slots_of, map, map_push, mul-le-mul_left, pair_size, pointer_pair, pointers_from, refl, slots_of, sum_by, sum_by-cons, sum_by_more, sum_by_more_le, sym, take, take-map, take_more, take_more_set, ℕ, ◌*◌, ◌++◌, ◌+◌, ◌<◌, ◌∙◌, ◌∷◌, ◌≡◌, ◌≤◌}
use Rattle.std.specs.List.{slice_set}
use Rattle.cdb_form.specs.declared.head.Pointer.{Pointer}

pointers_append : (w at : ℕ) (ls more : List (List WordPair)) → pointers_from w at (map slots_of (ls ++ more)) ≡ pointers_from w at (map slots_of ls) ++ pointers_from w (at + 4 * w * sum_by length ls) (map slots_of more)
unfolding pointers_from
pointers_append w at [] more = let e : at ≡ at + 4 * w * sum_by {X = List WordPair} length [] = omega arith in ap (λ (n : ℕ). pointers_from w n (map slots_of more)) e
pointers_append w at (l ∷ ls) more =
    let t : length (slots_of l) ≡ 2 * length l = length-slots_of l in
    let next : at + pair_size w * length (slots_of l) ≡ at + 4 * w * length l = ap (λ (n : ℕ). at + pair_size w * n) t ∙ omega arith in
    let total : at + pair_size w * length (slots_of l) + 4 * w * sum_by length ls ≡ at + 4 * w * sum_by length (l ∷ ls) =
    ap (λ (n : ℕ). n + 4 * w * sum_by length ls) next ∙ (let s = sum_by-cons length l ls in omega (arith, ap (λ (n : ℕ). 4 * w * n) s)) in
    ap (λ r. record { first = at; second = length (slots_of l) } ∷ r) (pointers_append w (at + pair_size w * length (slots_of l)) ls more ∙ ap (λ (n : ℕ). pointers_from w (at + pair_size w * length (slots_of l)) (map slots_of ls) ++ pointers_from w n (map slots_of more)) total)

pointer_one : (w at place slots : ℕ) (l : List WordPair) → place ≡ at → slots ≡ 2 * length l → pointers_from w at (map slots_of (l ∷ [])) ≡ record { first = place; second = slots } ∷ []
unfolding pointers_from
pointer_one w at place slots l ea es =
    ap (λ (n : ℕ). let p : WordPair = record { first = n; second = length (slots_of l) } in p ∷ []) (sym ea)
    ∙ ap (λ (n : ℕ). let p : WordPair = record { first = place; second = n } in p ∷ []) (length-slots_of l ∙ sym es)

pub pointers_none : (w at : ℕ) → [] ≡ pointers_from w at []
unfolding pointers_from
pointers_none w at = refl

-- one pointer more
pub pointers_next : (w at : ℕ) (ls : List (List WordPair)) (ps : List Pointer) (i place slots : ℕ) (l : List WordPair) → i < length ls → i < length ps → l ≡ get_or ls i l → place ≡ at + 4 * w * sum_by length (take i ls) → slots ≡ 2 * length l
    → map pointer_pair (take i ps) ≡ pointers_from w at (map slots_of (take i ls)) → map pointer_pair (take (i + 1) (slice_set ps i (record { place = place; slots = slots }))) ≡ pointers_from w at (map slots_of (take (i + 1) ls))
pointers_next w at ls ps i place slots l h hp is ep es before =
    let p : WordPair = record { first = place; second = slots } in
    let lists : take (i + 1) ls ≡ take i ls ++ l ∷ [] = take_more ls i l h ∙ ap (λ y. take i ls ++ y ∷ []) (sym is) in
    let last = pointer_one w (at + 4 * w * sum_by length (take i ls)) place slots l ep es in
    ap (map pointer_pair) (take_more_set ps i (record { place = place; slots = slots }) hp) ∙ map_push pointer_pair (take i ps) (record { place = place; slots = slots })
    ∙ ap (λ t. t ++ p ∷ []) before ∙ ap (λ t. pointers_from w at (map slots_of (take i ls)) ++ t) (sym last)
    ∙ sym (ap (λ v. pointers_from w at (map slots_of v)) lists ∙ pointers_append w at (take i ls) (l ∷ []))

-- the lists so far and the next one are no longer than all
pub sums_within : {X : Type 0} (f : X → List WordPair) (k : ℕ) (xs : List X) (i : ℕ) (x : X) → i < length xs → x ≡ get_or xs i x → k * sum_by length (map f (take i xs)) + k * length (f x) ≤ k * sum_by length (map f xs)
sums_within f k xs i x h is =
    let all = sum_by_more_le length (map f xs) i (f x) (simp length-map (omega arith)) in
    let e : length (get_or (map f xs) i (f x)) ≡ length (f x) = ap length (get_or-map f xs i x (f x) h ∙ ap f (sym is)) in
    let t : sum_by length (take i (map f xs)) ≡ sum_by length (map f (take i xs)) = ap (sum_by length) (take-map f i xs) in
    let sum : sum_by length (map f (take i xs)) + length (f x) ≤ sum_by length (map f xs) = omega (arith, all, e, t) in
    omega (arith, mul-le-mul_left k sum)

pub sums_more : {X : Type 0} (f : X → List WordPair) (k : ℕ) (xs : List X) (i : ℕ) (x : X) → i < length xs → x ≡ get_or xs i x → k * sum_by length (map f (take (i + 1) xs)) ≡ k * sum_by length (map f (take i xs)) + k * length (f x)
sums_more f k xs i x h is =
    let all = sum_by_more length (map f xs) i (f x) (simp length-map (omega arith)) in
    let e : length (get_or (map f xs) i (f x)) ≡ length (f x) = ap length (get_or-map f xs i x (f x) h ∙ ap f (sym is)) in
    let t : sum_by length (take i (map f xs)) ≡ sum_by length (map f (take i xs)) = ap (sum_by length) (take-map f i xs) in
    let t' : sum_by length (take (i + 1) (map f xs)) ≡ sum_by length (map f (take (i + 1) xs)) = ap (sum_by length) (take-map f (i + 1) xs) in
    let sum : sum_by length (map f (take (i + 1) xs)) ≡ sum_by length (map f (take i xs)) + length (f x) = omega (arith, all, e, t, t') in
    ap (λ (n : ℕ). k * n) sum ∙ omega arith

pub table_size : (w size n len : ℕ) → size ≡ pair_size w → len ≡ n → size * (2 * len) ≡ 4 * w * n
table_size w size n len es en = ap (λ (k : ℕ). k * (2 * len)) es ∙ ap (λ (k : ℕ). pair_size w * (2 * k)) en ∙ omega arith
