-- The slots of a table, and the tables of a head, one after the other.
use Rattle.cdb_read.proofs.Words.{Counts, Distances, List, Pointer, Spread, Spreads, WordPair, [], ap, arith, cond-false, cond-true, distance, eq-eqb, false, filter-append, flat_map-append, get_or, has_slots, home_slot, is_used, length, map, ne_eqb, not_from_false, not_from_true, pointer_pair, range_with_len, refl, subst, sym, take, true, ℕ, ◌++◌, ◌+◌, ◌<◌, ◌∙◌, ◌∷◌, ◌≡◌, ◌≤◌}
use Rattle.std.specs.Prelude.{Bool, filter}
use Rattle.std.proofs.lemmas.List.{map-id, map-append, append-nil, append_assoc, take_more, take_all, get_or-map, length-map}
use Rattle.std.proofs.lemmas.List.FromFn.{map-range_with_len_more}
use Rattle.cdb_read.specs.Statistics.{slot_of, distances_in, distances_of, table_sizes}

-- the distances of the used slots before one
abbrev pub is_used_at : ℕ → List ℕ → WordPair → ℕ → Bool
is_used_at w b p i = is_used (slot_of w b p i)

abbrev pub distance_at : ℕ → List ℕ → WordPair → ℕ → ℕ
distance_at w b p i = distance (home_slot (slot_of w b p i).first p.second) p.second i

abbrev pub distances_before : ℕ → List ℕ → WordPair → ℕ → List ℕ
distances_before w b p n = map (distance_at w b p) (filter (is_used_at w b p) (range_with_len 0 n))

pub all_before : (w : ℕ) (b : List ℕ) (p : WordPair) → distances_in w b p ≡ distances_before w b p p.second
unfolding distances_in
all_before w b p = refl

range_more : (n : ℕ) → range_with_len 0 (n + 1) ≡ range_with_len 0 n ++ n ∷ []
range_more n =
    let at : 0 + n ≡ n = omega arith in
    sym (map-id (range_with_len 0 (n + 1))) ∙ map-range_with_len_more (λ k. k) 0 n n at ∙ ap (λ l. l ++ n ∷ []) (map-id (range_with_len 0 n))

-- one slot more
before_more : (w : ℕ) (b : List ℕ) (p : WordPair) (n : ℕ) → distances_before w b p (n + 1) ≡ distances_before w b p n ++ map (distance_at w b p) (filter (is_used_at w b p) (n ∷ []))
before_more w b p n =
    ap (λ l. map (distance_at w b p) (filter (is_used_at w b p) l)) (range_more n)
    ∙ ap (map (distance_at w b p)) (filter-append (is_used_at w b p) (range_with_len 0 n) (n ∷ []))
    ∙ map-append (distance_at w b p) (filter (is_used_at w b p) (range_with_len 0 n)) (filter (is_used_at w b p) (n ∷ []))

-- a used one, and an empty one
pub counts_used : (w : ℕ) (b : List ℕ) (p : WordPair) (n d : ℕ) (ds : List ℕ) (slot : WordPair) (new : Distances) → slot ≡ slot_of w b p n → (slot.second ≡ 0 → ⊥) → d ≡ distance (home_slot slot.first p.second) p.second n → Counts new ((ds ++ distances_before w b p n) ++ d ∷ []) → Counts new (ds ++ distances_before w b p (n + 1))
counts_used w b p n d ds slot new is used at h =
    let yes : is_used_at w b p n ≡ true = ap is_used (sym is) ∙ not_from_false _ (ne_eqb slot.second 0 used) in
    let one : filter (is_used_at w b p) (n ∷ []) ≡ n ∷ [] = cond-true (is_used_at w b p n) (n ∷ []) [] yes in
    let here : d ≡ distance_at w b p n = at ∙ ap (λ (s : WordPair). distance (home_slot s.first p.second) p.second n) is in
    subst (Counts new)
    (append_assoc ds (distances_before w b p n) (d ∷ [])
    ∙ ap (λ x. ds ++ (distances_before w b p n ++ x ∷ [])) here
    ∙ ap (λ l. ds ++ (distances_before w b p n ++ map (distance_at w b p) l)) (sym one)
    ∙ ap (λ l. ds ++ l) (sym (before_more w b p n)))
    h

pub counts_empty : (w : ℕ) (b : List ℕ) (p : WordPair) (n : ℕ) (ds : List ℕ) (slot : WordPair) (new : Distances) → slot ≡ slot_of w b p n → slot.second ≡ 0 → Counts new (ds ++ distances_before w b p n) → Counts new (ds ++ distances_before w b p (n + 1))
counts_empty w b p n ds slot new is empty h =
    let no : is_used_at w b p n ≡ false = ap is_used (sym is) ∙ not_from_true _ (eq-eqb slot.second 0 empty) in
    let none : filter (is_used_at w b p) (n ∷ []) ≡ [] = cond-false (is_used_at w b p n) (n ∷ []) [] no in
    subst (Counts new)
    (ap (λ l. ds ++ l) (sym (append-nil (distances_before w b p n)))
    ∙ ap (λ l. ds ++ (distances_before w b p n ++ map (distance_at w b p) l)) (sym none)
    ∙ ap (λ l. ds ++ l) (sym (before_more w b p n)))
    h

pub some_slots : (p : WordPair) (n : ℕ) → n < p.second → has_slots p ≡ true
some_slots p n low = not_from_false _ (ne_eqb p.second 0 (λ e. omega arith))

-- the tables before one, and one table more
abbrev pub tables_before : ℕ → List ℕ → List WordPair → ℕ → List ℕ
tables_before w b ps n = distances_of w b (take n ps)

tables_more : (w : ℕ) (b : List ℕ) (ps : List WordPair) (n : ℕ) (d : WordPair) → n < length ps → tables_before w b ps (n + 1) ≡ tables_before w b ps n ++ distances_in w b (get_or ps n d)
tables_more w b ps n d low =
    ap (distances_of w b) (take_more ps n d low)
    ∙ flat_map-append (distances_in w b) (take n ps) (get_or ps n d ∷ [])
    ∙ ap (λ l. tables_before w b ps n ++ l) (append-nil (distances_in w b (get_or ps n d)))

-- one table more of those with slots
sizes_more : (ps : List WordPair) (n : ℕ) (d : WordPair) → n < length ps → table_sizes (take (n + 1) ps) ≡ table_sizes (take n ps) ++ table_sizes (get_or ps n d ∷ [])
sizes_more ps n d low =
    ap table_sizes (take_more ps n d low)
    ∙ ap (map (λ (p : WordPair). p.second)) (filter-append has_slots (take n ps) (get_or ps n d ∷ []))
    ∙ map-append (λ (p : WordPair). p.second) (filter has_slots (take n ps)) (filter has_slots (get_or ps n d ∷ []))

pub sizes_some : (ps : List Pointer) (n : ℕ) (d : Pointer) → n < length ps → ((get_or ps n d).slots ≡ 0 → ⊥) → table_sizes (take (n + 1) (map pointer_pair ps)) ≡ table_sizes (take n (map pointer_pair ps)) ++ (get_or ps n d).slots ∷ []
sizes_some ps n d low some =
    let qs = map pointer_pair ps in
    let l = length-map ps pointer_pair in
    let q = pointer_pair (get_or ps n d) in
    let yes : has_slots q ≡ true = not_from_false _ (ne_eqb q.second 0 some) in
    sizes_more qs n (pointer_pair d) (omega arith)
    ∙ ap (λ x. table_sizes (take n qs) ++ table_sizes (x ∷ [])) (get_or-map pointer_pair ps n d (pointer_pair d) low)
    ∙ ap (λ (xs : List WordPair). table_sizes (take n qs) ++ map (λ (p : WordPair). p.second) xs) (cond-true (has_slots q) (q ∷ []) [] yes)

pub sizes_none : (ps : List Pointer) (n : ℕ) (d : Pointer) → n < length ps → (get_or ps n d).slots ≡ 0 → table_sizes (take (n + 1) (map pointer_pair ps)) ≡ table_sizes (take n (map pointer_pair ps))
sizes_none ps n d low none =
    let qs = map pointer_pair ps in
    let l = length-map ps pointer_pair in
    let q = pointer_pair (get_or ps n d) in
    let no : has_slots q ≡ false = not_from_true _ (eq-eqb q.second 0 none) in
    sizes_more qs n (pointer_pair d) (omega arith)
    ∙ ap (λ x. table_sizes (take n qs) ++ table_sizes (x ∷ [])) (get_or-map pointer_pair ps n d (pointer_pair d) low)
    ∙ ap (λ (xs : List WordPair). table_sizes (take n qs) ++ map (λ (p : WordPair). p.second) xs) (cond-false (has_slots q) (q ∷ []) [] no)
    ∙ append-nil (table_sizes (take n qs))

-- and of all
pub tables_more_at : (w : ℕ) (b : List ℕ) (ps : List Pointer) (n : ℕ) (d : Pointer) → n < length ps → tables_before w b (map pointer_pair ps) (n + 1) ≡ tables_before w b (map pointer_pair ps) n ++ distances_in w b (pointer_pair (get_or ps n d))
tables_more_at w b ps n d low =
    let qs = map pointer_pair ps in
    let l = length-map ps pointer_pair in
    tables_more w b qs n (pointer_pair d) (omega arith)
    ∙ ap (λ q. tables_before w b qs n ++ distances_in w b q) (get_or-map pointer_pair ps n d (pointer_pair d) low)

pub all_tables : (ps : List Pointer) (n : ℕ) → length ps ≤ n → take n (map pointer_pair ps) ≡ map pointer_pair ps
all_tables ps n past = let l = length-map ps pointer_pair in take_all n (map pointer_pair ps) (omega arith)

-- the sizes of those before one
pub record SizesBefore (sizes : Spread) (ps : List Pointer) (n : ℕ) : Type 0 where
  pub few : sizes.count ≤ n
  pub spreads : Spreads sizes (table_sizes (take n (map pointer_pair ps)))
