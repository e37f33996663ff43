-- How often a place occurs in tables that follow each other.
use Rattle.cdb_read.proofs.Words.{List, WordPair, ap, append-nil, arith, cases_Bool, cond, count_by, empty_slot, eq-eqb, eqb-true, false, flat_map, has_place, inl, inr, is_used, length, list_any, nth_slot, range_with_len, refl, subst, suc, sym, take, take_all, true, zero, ℕ, ◌++◌, ◌+◌, ◌<◌, ◌==◌, ◌∙◌, ◌≡◌, ◌≤◌}
use Rattle.std.proofs.lemmas.List.Sums.{count_by_more_yes, count_by_more_no, sum_by-take-le}
use Rattle.cdb_read.proofs.Lists.Counts.{any_none, count-append, count_lists_part, lists_more, none_any}
use Rattle.cdb_read.proofs.FilledTables.Fits.{used}

-- if no used slot has the place of an earlier one, a place occurs once at most
abbrev pub NoneTwice : List WordPair → List WordPair → Type 0
NoneTwice before slots = (i : ℕ) → i < length slots → is_used (nth_slot slots i) ≡ true → list_any (has_place (nth_slot slots i)) (before ++ take i slots) ≡ false

once_so_far : (e : WordPair) (before slots : List WordPair) (i : ℕ) → 0 < e.second → i ≤ length slots → NoneTwice before slots → count_by (has_place e) before ≤ 1 → count_by (has_place e) (before ++ take i slots) ≤ 1
once_so_far e before slots zero some l fresh few = let none = append-nil before in subst (λ t. count_by (has_place e) t ≤ 1) (sym none) few
once_so_far e before slots (suc i) some l fresh few =
    let s = nth_slot slots i in
    let seen = before ++ take i slots in
    let next : suc i ≡ i + 1 = omega arith in
    let low : i < length slots = omega arith in
    let ih = once_so_far e before slots i some (omega arith) fresh few in
    let joined = count-append (has_place e) before (take i slots) in
    let more = count-append (has_place e) before (take (i + 1) slots) in
    subst (λ k. count_by (has_place e) (before ++ take k slots) ≤ 1) (sym next) (elim (cases_Bool (has_place e s)) [
      | inl t ↦
          (let place = eqb-true s.second e.second t in
          let free = any_none (has_place s) seen (fresh i low (used s.second (omega arith))) in
          let none : count_by (has_place e) seen ≡ 0 = ap (λ k. count_by (λ (q : WordPair). q.second == k) seen) (sym place) ∙ free in
          let one = count_by_more_yes (has_place e) slots i empty_slot low t in
          omega arith)
      | inr f ↦ (let same = count_by_more_no (has_place e) slots i empty_slot low f in omega arith)
    ])

pub once_in_tables : (f : ℕ → List WordPair) (e : WordPair) (k : ℕ) → 0 < e.second → ((n : ℕ) → n < k → NoneTwice (flat_map f (range_with_len 0 n)) (f n)) → count_by (has_place e) (flat_map f (range_with_len 0 k)) ≤ 1
once_in_tables f e zero some each = omega arith
once_in_tables f e (suc k) some each =
    let next : suc k ≡ k + 1 = omega arith in
    let at : 0 + k ≡ k = omega arith in
    let before = flat_map f (range_with_len 0 k) in
    let ih = once_in_tables f e k some (λ n l. each n (omega arith)) in
    let all = once_so_far e before (f k) (length (f k)) some (omega arith) (each k (omega arith)) ih in
    let same : flat_map f (range_with_len 0 (suc k)) ≡ before ++ take (length (f k)) (f k) =
    ap (λ n. flat_map f (range_with_len 0 n)) next ∙ lists_more f 0 k ∙ ap (λ n. before ++ f n) at ∙ ap (λ t. before ++ t) (sym (take_all (length (f k)) (f k) (omega arith))) in
    subst (λ t. count_by (has_place e) t ≤ 1) (sym same) all

-- and a place that occurs once, doesn't occur earlier
pub none_earlier : (f : ℕ → List WordPair) (k n i : ℕ) → n < k → i < length (f n) → count_by (has_place (nth_slot (f n) i)) (flat_map f (range_with_len 0 k)) ≡ 1
    → list_any (has_place (nth_slot (f n) i)) (flat_map f (range_with_len 0 n) ++ take i (f n)) ≡ false
none_earlier f k n i l m one =
    let q = has_place (nth_slot (f n) i) in
    let part = count_lists_part q f n k l in
    let here = count_by_more_yes q (f n) i empty_slot m (eq-eqb _ _ refl) in
    let within = sum_by-take-le (λ y. cond {A = ℕ} (q y) 1 0) (f n) (i + 1) in
    let joined = count-append q (flat_map f (range_with_len 0 n)) (take i (f n)) in
    none_any q (flat_map f (range_with_len 0 n) ++ take i (f n)) (omega arith)
