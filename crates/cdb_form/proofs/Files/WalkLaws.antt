-- The walk of any file, and of the file of some records.
use Rattle.cdb_form.proofs.Words.{AllByRecursion, AreBytes, Damage, KeyValue, List, PairFits, Walked, WordPair, [], ap, arith, drop, file_bytes, file_pointers, file_size, file_tables, flat_map, fold, has_slots, head_at, head_size, inl, inr, least_place, length, length-append, length-drop, length-take, map, nth_pair, pointers_from, range_with_len, record_bytes, record_end, record_size, records_end, recursion_from_All, reduce, refl, slots_of, subst, suc, sum_by-cons, sym, table_entries, take, walk_of, whole_records, zero, ℕ, ◌*◌, ◌++◌, ◌+◌, ◌-◌, ◌<◌, ◌^◌, ◌∙◌, ◌∷◌, ◌≡◌, ◌≤◌, ◌⊎◌}
use Rattle.std.specs.Prelude.{Option, Some, ◌==◌, not, min, unwrap_or, filter, sum_by}
use Rattle.std.proofs.lemmas.List.{nil_from_length, append-nil, take_at, take-append-drop, take-take}
use Rattle.std.proofs.lemmas.Bool.{cond-true, cond-false, cond_both, ne_eqb, eq-eqb, not_from_true, not_from_false, cases_eq}
use Rattle.byteorder.specs.Numbers.{little_from-lt}
use Rattle.cdb_form.specs.declared.damage.Damage.TheVariants.{Record}
use Rattle.cdb_form.specs.Laws.Parse.{Stand, StandLongest, HasHead, IsWalk, WalksBack}
use Rattle.cdb_form.proofs.Bytes.ReadBack.{map-nth_pair}
use Rattle.cdb_form.proofs.Files.Places.{slot_count, tables_bytes, length-file_pointers, slot_count-file_tables, file_of_is, drop-head}
use Rattle.cdb_form.proofs.Files.Sizes.{length-records, size_split, length-file_bytes, pointers_fit, sum_by-table_entries, tables_are}
use Rattle.cdb_form.proofs.Files.Prefixes.{all_records, take_past}
use Rattle.cdb_form.proofs.Files.WalkSteps.{walk_with, walk_from-is, stopped, walk_of-short, walk_of-table, walk_of-records}
use Rattle.cdb_form.proofs.Files.Standing.{AreBytes-drop, lengths_fit, all_records-flat_map, whole_records-stand}
use Rattle.cdb_form.proofs.Bytes.ByteLemmas.{AreBytes-take}

-- the places of the tables that have slots
abbrev pub starts_of : List WordPair → List ℕ
starts_of ps = map (λ (p : WordPair). p.first) (filter has_slots ps)

-- the least of some numbers below a bound is below it
fold_min-le : (a : ℕ) (xs : List ℕ) → fold min a xs ≤ a
fold_min-le a [] = omega arith
fold_min-le a (x ∷ xs) = let h = fold_min-le (min a x) xs in omega arith

least_of-le : (none top : ℕ) (xs : List ℕ) → none ≤ top → AllByRecursion (λ x. x ≤ top) xs → unwrap_or (reduce min xs) none ≤ top
least_of-le none top [] h all = h
least_of-le none top (x ∷ xs) h all = let first = all.0 in let least = fold_min-le x xs in omega arith

starts-le : (top : ℕ) (f : ℕ → WordPair) (ns : List ℕ) → ((n : ℕ) → (f n).first ≤ top) → AllByRecursion (λ x. x ≤ top) (starts_of (map f ns))
starts-le top f [] each = tt
starts-le top f (n ∷ ns) each =
    cond_both (has_slots (f n)) (f n ∷ filter has_slots (map f ns)) (filter has_slots (map f ns)) (λ ps. AllByRecursion (λ x. x ≤ top) (map (λ (p : WordPair). p.first) ps))
    (λ t. (each n, starts-le top f ns each)) (λ f. starts-le top _ ns each)

-- the record end is a word
pub record_end-le : (w top : ℕ) (bytes : List ℕ) → AreBytes bytes → top + 1 ≡ 256 ^ w → head_size w ≤ top → record_end w bytes ≤ top
unfolding record_end head_at
record_end-le w top bytes are top_is head =
    least_of-le (head_size w) top (starts_of (map (nth_pair w bytes) (range_with_len 0 256))) head
    (starts-le top (nth_pair w bytes) (range_with_len 0 256) (λ n. (let small = little_from-lt 0 w (drop (2 * w * n) bytes) (AreBytes-drop (2 * w * n) bytes are) in omega arith)))

-- what lies between the head and the record end
abbrev pub area_of : ℕ → List ℕ → List ℕ
area_of w bytes = take (record_end w bytes - head_size w) (drop (head_size w) bytes)

-- records that lie in the file are the start of the records that are read
pub stand_longest : (w top : ℕ) (bytes : List ℕ) (rs : List KeyValue) → 0 < w → top + 1 ≡ 256 ^ w → record_end w bytes ≤ top → Stand w bytes rs → (more : List KeyValue) × (all_records w (area_of w bytes) ≡ rs ++ more)
stand_longest w top bytes rs some top_is low s =
    let n = sum_by (record_size w) rs in
    let m = record_end w bytes - records_end w rs in
    let body = drop (head_size w) bytes in
    let before = s.before_end in
    let long : record_end w bytes - head_size w ≡ sum_by (record_size w) rs + (record_end w bytes - records_end w rs) = omega arith in
    let cut : drop (head_size w) bytes ≡ flat_map (record_bytes w) rs ++ drop (sum_by (record_size w) rs) (drop (head_size w) bytes) =
    sym (take-append-drop (sum_by (record_size w) rs) (drop (head_size w) bytes)) ∙ ap (λ t. t ++ drop (sum_by (record_size w) rs) (drop (head_size w) bytes)) s.bytes_are in
    let area : area_of w bytes ≡ flat_map (record_bytes w) rs ++ take (record_end w bytes - records_end w rs) (drop (sum_by (record_size w) rs) (drop (head_size w) bytes)) =
    ap (λ k. take k (drop (head_size w) bytes)) long
    ∙ ap (take (sum_by (record_size w) rs + (record_end w bytes - records_end w rs))) cut
    ∙ take_past (flat_map (record_bytes w) rs) (drop (sum_by (record_size w) rs) (drop (head_size w) bytes)) (sum_by (record_size w) rs) (record_end w bytes - records_end w rs) (length-records w rs) in (
      all_records w (take (record_end w bytes - records_end w rs) (drop (sum_by (record_size w) rs) (drop (head_size w) bytes))),
      ap (all_records w) area ∙ all_records-flat_map w top rs (take (record_end w bytes - records_end w rs) (drop (sum_by (record_size w) rs) (drop (head_size w) bytes))) some top_is (lengths_fit w top rs (omega arith)),
    )

-- and the records that are read lie in the file
pub all_records-stand : (w : ℕ) (bytes : List ℕ) → AreBytes bytes → HasHead w bytes → Stand w bytes (all_records w (area_of w bytes))
all_records-stand w bytes are head =
    let whole = head.whole in
    let behind = head.behind in
    let stands = whole_records-stand w (length (area_of w bytes)) (area_of w bytes) (AreBytes-take (record_end w bytes - head_size w) (drop (head_size w) bytes) (AreBytes-drop (head_size w) bytes are)) in
    let sum = length-records w (all_records w (area_of w bytes)) in
    let long : length (area_of w bytes) ≡ sum_by (record_size w) (all_records w (area_of w bytes)) + length stands.0 =
    ap length stands.1 ∙ length-append (flat_map (record_bytes w) (all_records w (area_of w bytes))) stands.0 ∙ ap (λ n. n + length stands.0) sum in
    let a = length-take (record_end w bytes - head_size w) (drop (head_size w) bytes) in
    let b = length-drop (head_size w) bytes in
    let cut : take (sum_by (record_size w) (all_records w (area_of w bytes))) (area_of w bytes) ≡ flat_map (record_bytes w) (all_records w (area_of w bytes)) =
    ap (take (sum_by (record_size w) (all_records w (area_of w bytes)))) stands.1 ∙ take_at (flat_map (record_bytes w) (all_records w (area_of w bytes))) stands.0 (sum_by (record_size w) (all_records w (area_of w bytes))) sum in
    record {
      inside = omega arith;
      before_end = omega arith;
      bytes_are = sym (take-take (sum_by (record_size w) (all_records w (area_of w bytes))) (record_end w bytes - head_size w) (drop (head_size w) bytes) (omega arith)) ∙ cut;
    }

walk_of-is : (w : ℕ) (bytes : List ℕ) → HasHead w bytes → walk_of w bytes ≡ walk_with w (head_size w) (record_end w bytes) (all_records w (area_of w bytes))
walk_of-is w bytes head = walk_of-records w bytes head.whole head.behind ∙ walk_from-is w (head_size w) (record_end w bytes) (drop (head_size w) bytes)

pub walk_of-IsWalk : (w top : ℕ) (bytes : List ℕ) → 0 < w → top + 1 ≡ 256 ^ w → head_size w ≤ top → AreBytes bytes → IsWalk w bytes (walk_of w bytes)
walk_of-IsWalk w top bytes some top_is head are =
    let rs : HasHead w bytes → (walk_of w bytes).records ≡ all_records w (area_of w bytes) = λ h. ap (λ (v : Walked). v.records) (walk_of-is w bytes h) in
    let d : HasHead w bytes → (walk_of w bytes).damage ≡ stopped (records_end w (all_records w (area_of w bytes))) (record_end w bytes) = λ h. ap (λ (v : Walked). v.damage) (walk_of-is w bytes h) in
    record {
      short = walk_of-short w bytes;
      table = walk_of-table w bytes;
      longest = λ h. subst (StandLongest w bytes) (sym (rs h)) (record {
        stand = all_records-stand w bytes are h;
        longest = λ others s. stand_longest w top bytes others some top_is (record_end-le w top bytes are top_is head) s;
      });
      whole = λ h e. d h ∙ cond-true (records_end w (all_records w (area_of w bytes)) == record_end w bytes) _ _ (eq-eqb _ _ (sym (ap (records_end w) (rs h)) ∙ e));
      damage = λ h e.
          d h ∙ cond-false (records_end w (all_records w (area_of w bytes)) == record_end w bytes) _ _ (ne_eqb _ _ (λ same. let there = ap (records_end w) (rs h) in absurd (omega arith)))
          ∙ ap (λ (q : List KeyValue). let o : Option Damage = Some (Record (records_end w q)) in o) (sym (rs h));
    }

-- the file of some records: the places of its tables

starts-empty : (w at : ℕ) (t : List WordPair) (ts : List (List WordPair)) → length t ≡ 0 → starts_of (pointers_from w at (t ∷ ts)) ≡ starts_of (pointers_from w (at + 2 * w * length t) ts)
unfolding pointers_from
starts-empty w at t ts e = ap (map (λ (p : WordPair). p.first)) (cond-false (not (length t == 0)) _ _ (not_from_true (length t == 0) (eq-eqb (length t) 0 e)))

starts-some : (w at : ℕ) (t : List WordPair) (ts : List (List WordPair)) → (length t ≡ 0 → ⊥) → starts_of (pointers_from w at (t ∷ ts)) ≡ at ∷ starts_of (pointers_from w (at + 2 * w * length t) ts)
unfolding pointers_from
starts-some w at t ts n = ap (map (λ (p : WordPair). p.first)) (cond-true (not (length t == 0)) _ _ (not_from_false (length t == 0) (ne_eqb (length t) 0 n)))

starts-none : (w at : ℕ) (ts : List (List WordPair)) → slot_count ts ≡ 0 → starts_of (pointers_from w at ts) ≡ []
unfolding pointers_from
starts-none w at [] none = refl
starts-none w at (t ∷ ts) none =
    let both = sum_by-cons length t ts in
    starts-empty w at t ts (omega arith) ∙ starts-none w (at + 2 * w * length t) ts (omega arith)

all_above : (a b : ℕ) (xs : List ℕ) → a ≤ b → AllByRecursion (λ x. b ≤ x) xs → AllByRecursion (λ x. a ≤ x) xs
all_above a b [] h all = tt
all_above a b (x ∷ xs) h all = (let first = all.0 in omega arith, all_above a b xs h all.1)

starts-above : (w at : ℕ) (ts : List (List WordPair)) → AllByRecursion (λ x. at ≤ x) (starts_of (pointers_from w at ts))
unfolding pointers_from
starts-above w at [] = tt
starts-above w at (t ∷ ts) =
    let rest = all_above at (at + 2 * w * length t) (starts_of (pointers_from w (at + 2 * w * length t) ts)) (omega arith) (starts-above w (at + 2 * w * length t) ts) in
    elim (cases_eq (length t) 0) [
      | inl e ↦ subst (AllByRecursion (λ x. at ≤ x)) (sym (starts-empty w at t ts e)) rest
      | inr n ↦ subst (AllByRecursion (λ x. at ≤ x)) (sym (starts-some w at t ts n)) (let same : at ≤ at = omega arith in same, rest)
    ]

least_of : (at : ℕ) (xs : List ℕ) → AllByRecursion (λ x. at ≤ x) xs → fold min at xs ≡ at
least_of at [] all = refl
least_of at (x ∷ xs) all =
    let first = all.0 in
    let e : min at x ≡ at = omega arith in
    ap (λ a. fold min a xs) e ∙ least_of at xs all.1

least-some : (w at none : ℕ) (ts : List (List WordPair)) → 0 < slot_count ts → least_place none (pointers_from w at ts) ≡ at
least-some w at none [] some = absurd (omega arith)
least-some w at none (t ∷ ts) some =
    let both = sum_by-cons length t ts in
    elim (cases_eq (length t) 0) [
      | inl e ↦
          (ap (λ xs. unwrap_or (reduce min xs) none) (starts-empty w at t ts e)
          ∙ least-some w (at + 2 * w * length t) none ts (omega arith)
          ∙ ap (λ n. at + 2 * w * n) e ∙ omega arith)
      | inr n ↦
          (ap (λ xs. unwrap_or (reduce min xs) none) (starts-some w at t ts n)
          ∙ least_of at (starts_of (pointers_from w (at + 2 * w * length t) ts)) (all_above at (at + 2 * w * length t) (starts_of (pointers_from w (at + 2 * w * length t) ts)) (omega arith) (starts-above w (at + 2 * w * length t) ts)))
    ]

pub Fit-file_pointers : (w top : ℕ) (rs : List KeyValue) → (w ≡ 4) ⊎ (w ≡ 8) → file_size w rs ≤ top → AllByRecursion (PairFits top) (file_pointers w rs)
unfolding file_pointers
Fit-file_pointers w top rs ww room =
    let ls = map (table_entries w rs) (range_with_len 0 256) in
    let size = size_split w rs in
    let count = ap (λ (n : ℕ). 4 * w * n) (sum_by-table_entries w rs) in
    subst (λ ts. AllByRecursion (PairFits top) (pointers_from w (records_end w rs) ts)) (sym (tables_are w rs))
    (recursion_from_All (PairFits top) (pointers_from w (records_end w rs) (map slots_of ls)) (pointers_fit w (records_end w rs) top ls ww (omega arith)))

-- the head of the file reads as its pointers
pub head_at-file_bytes : (w top : ℕ) (rs : List KeyValue) → (w ≡ 4) ⊎ (w ≡ 8) → top + 1 ≡ 256 ^ w → file_size w rs ≤ top → head_at w (file_bytes w rs) ≡ file_pointers w rs
unfolding head_at
head_at-file_bytes w top rs ww top_is room =
    ap (λ b. map (nth_pair w b) (range_with_len 0 256)) (file_of_is w rs)
    ∙ map-nth_pair w top 256 (file_pointers w rs) (flat_map (record_bytes w) rs ++ tables_bytes w rs) top_is (length-file_pointers w rs) (Fit-file_pointers w top rs ww room)

some_of : (n m : ℕ) → m ≡ 2 * n → (n ≡ 0 → ⊥) → 0 < m
some_of zero m e h = absurd (h refl)
some_of (suc n) m e h = omega arith

pub record_end-file_bytes : (w top : ℕ) (rs : List KeyValue) → (w ≡ 4) ⊎ (w ≡ 8) → top + 1 ≡ 256 ^ w → file_size w rs ≤ top → record_end w (file_bytes w rs) ≡ records_end w rs
unfolding record_end file_pointers
record_end-file_bytes w top rs ww top_is room =
    let count = slot_count-file_tables w rs in
    ap (least_place (head_size w)) (head_at-file_bytes w top rs ww top_is room) ∙ elim (cases_eq (length rs) 0) [
      | inl e ↦
          (let none = nil_from_length rs e in
          ap (λ xs. unwrap_or (reduce min xs) (head_size w)) (starts-none w (records_end w rs) (file_tables w rs) (omega arith))
          ∙ sym (ap (records_end w) none ∙ omega arith))
      | inr n ↦ least-some w (records_end w rs) (head_size w) (file_tables w rs) (some_of (length rs) (slot_count (file_tables w rs)) count n)
    ]

-- the law
pub walk_of-file_bytes : (w top : ℕ) (rs : List KeyValue) → (w ≡ 4) ⊎ (w ≡ 8) → top + 1 ≡ 256 ^ w → file_size w rs ≤ top → WalksBack w rs
unfolding whole_records
walk_of-file_bytes w top rs ww top_is room =
    let some : 0 < w = elim ww [ inl a ↦ omega arith | inr b ↦ omega arith ] in
    let file = file_bytes w rs in
    let size = size_split w rs in
    let long = length-file_bytes w rs in
    let end = record_end-file_bytes w top rs ww top_is room in
    let head : HasHead w (file_bytes w rs) = record { whole = omega arith; behind = omega arith } in
    let n : record_end w (file_bytes w rs) - head_size w ≡ sum_by (record_size w) rs = omega arith in
    let area : area_of w (file_bytes w rs) ≡ flat_map (record_bytes w) rs ++ [] =
    ap (λ k. take k (drop (head_size w) (file_bytes w rs))) n
    ∙ ap (take (sum_by (record_size w) rs)) (drop-head w rs)
    ∙ take_at (flat_map (record_bytes w) rs) (tables_bytes w rs) (sum_by (record_size w) rs) (length-records w rs)
    ∙ sym (append-nil (flat_map (record_bytes w) rs)) in
    let are : all_records w (area_of w (file_bytes w rs)) ≡ rs = ap (all_records w) area ∙ all_records-flat_map w top rs [] some top_is (lengths_fit w top rs (omega arith)) ∙ append-nil rs in
    walk_of-is w (file_bytes w rs) head
    ∙ ap (walk_with w (head_size w) (record_end w (file_bytes w rs))) are
    ∙ ap (λ e. walk_with w (head_size w) e rs) end
    ∙ ap (λ d. let v : Walked = record { records = rs; damage = d } in v) (cond-true (records_end w rs == records_end w rs) _ _ (eq-eqb (records_end w rs) (records_end w rs) refl))
