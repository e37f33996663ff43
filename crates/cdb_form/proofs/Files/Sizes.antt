-- How long the parts of a file are.
use Rattle.std.proofs.Common.{◌≡◌, ℕ, zero, suc, ◌+◌, ◌*◌, ◌%◌, ◌<◌, ◌≤◌, Bool, true, false, cond, List, [], ◌∷◌, ◌++◌, length, map, flat_map, refl, sym, ap, ◌∙◌, arith, nat_eq, nat_lt, length-append, fold, length-set, replicate, ◌⊎◌, inl, inr}
use Rattle.std.specs.List.{filter, range_with_len}
use Rattle.std.specs.Prelude.{sum_by, All}
use Rattle.cdb_form.proofs.Words.{KeyValue, PairFits, WordPair, file_bytes, file_pointers, file_size, head_size, length-bytes_low_first, length-map, length-replicate, nat_tests, pair_bytes, pointers_from, record_bytes, record_size, records_end, sum_by-cons}
use Rattle.std.proofs.lemmas.List.Concat.{length-flat_map}
use Rattle.std.proofs.lemmas.List.FromFn.{sum_by-map-range_with_len_more, length-map-range_with_len}
use Rattle.std.proofs.lemmas.List.Elements.{All-cons, All-nil}
use Rattle.cdb_form.specs.Format.{in_table, slots_with, filled_slots, file_entries, entries_from, table_entries, slots_of, table_slots, file_tables, empty_slot}
use Rattle.cdb_form.proofs.Bytes.HeadLemmas.{length-flat_map_words}

-- a table keeps its number of slots
pub length-slots_with : (slots : List WordPair) (e : WordPair) → length (slots_with slots e) ≡ length slots
unfolding slots_with
length-slots_with slots e = length-set slots _ e

length-filled_from : (es slots : List WordPair) → length (fold slots_with slots es) ≡ length slots
length-filled_from [] slots = refl
length-filled_from (e ∷ es) slots = length-filled_from es (slots_with slots e) ∙ length-slots_with slots e

pub length-slots_of : (es : List WordPair) → length (slots_of es) ≡ 2 * length es
unfolding filled_slots
length-slots_of es = length-filled_from es (replicate (2 * length es) empty_slot) ∙ length-replicate (2 * length es) empty_slot

-- a record, and the records
pub length-record_bytes : (w : ℕ) (r : KeyValue) → length (record_bytes w r) ≡ record_size w r
unfolding record_bytes
length-record_bytes w r = simp (length-append, length-bytes_low_first) (omega arith)

pub length-records : (w : ℕ) (rs : List KeyValue) → length (flat_map (record_bytes w) rs) ≡ sum_by (record_size w) rs
length-records w [] = refl
length-records w (r ∷ rs) =
    let ih = length-records w rs in
    let s = sum_by-cons (record_size w) r rs in
    let one : length (record_bytes w r) ≡ record_size w r = length-record_bytes w r in
    let all : length (record_bytes w r ++ flat_map (record_bytes w) rs) ≡ length (record_bytes w r) + length (flat_map (record_bytes w) rs) = length-append (record_bytes w r) (flat_map (record_bytes w) rs) in
    omega (arith, ih, s, one, all)

pub length-file_entries : (w at : ℕ) (rs : List KeyValue) → length (entries_from w at rs) ≡ length rs
unfolding entries_from
length-file_entries w at [] = refl
length-file_entries w at (r ∷ rs) = let h = length-file_entries w (at + record_size w r) rs in omega (arith, h)

-- the entries of the tables below k, table by table
below_table : ℕ → WordPair → Bool
below_table k e = nat_lt (e.first % 256) k

one_more_table : (k x : ℕ) (a b c : ℕ) → c ≡ a + b → cond (nat_lt x (k + 1)) (suc c) c ≡ cond (nat_lt x k) (suc a) a + cond (nat_eq x k) (suc b) b
one_more_table k x a b c h = grind (arith, nat_tests)

length_kept : (b : Bool) (e : WordPair) (xs : List WordPair) → length (cond b (e ∷ xs) xs) ≡ cond b (suc (length xs)) (length xs)
length_kept true e xs = refl
length_kept false e xs = refl

length-filter_below : (k : ℕ) (es : List WordPair) → length (filter (below_table (k + 1)) es) ≡ length (filter (below_table k) es) + length (filter (in_table k) es)
unfolding below_table
length-filter_below k [] = omega arith
length-filter_below k (e ∷ es) =
    let ih = length-filter_below k es in
    simp length_kept (one_more_table k (e.first % 256) (length (filter (below_table k) es)) (length (filter (in_table k) es)) (length (filter (below_table (k + 1)) es)) ih)

none_below : (es : List WordPair) → length (filter (below_table 0) es) ≡ 0
unfolding below_table
none_below [] = refl
none_below (e ∷ es) = let ih = none_below es in grind (arith, nat_tests)

all_below : (es : List WordPair) → length (filter (below_table 256) es) ≡ length es
unfolding below_table
all_below [] = refl
all_below (e ∷ es) = let ih = all_below es in let small : e.first % 256 < 256 = omega arith in grind (arith, nat_tests)

counts_below : (w : ℕ) (rs : List KeyValue) (k : ℕ) → sum_by length (map (table_entries w rs) (range_with_len 0 k)) ≡ length (filter (below_table k) (file_entries w rs))
unfolding table_entries
counts_below w rs zero = sym (none_below (file_entries w rs))
counts_below w rs (suc k) =
    let ih = counts_below w rs k in
    let more = sum_by-map-range_with_len_more length (table_entries w rs) 0 k k (omega arith) in
    let split = length-filter_below k (file_entries w rs) in
    let e : suc k ≡ k + 1 = omega arith in
    ap (λ (n : ℕ). sum_by length (map (table_entries w rs) (range_with_len 0 n))) e ∙ more ∙ ap (λ (n : ℕ). n + length (filter (in_table k) (file_entries w rs))) ih ∙ sym split ∙ ap (λ (n : ℕ). length (filter (below_table n) (file_entries w rs))) (sym e)

-- each record is in one table
pub sum_by-table_entries : (w : ℕ) (rs : List KeyValue) → sum_by length (map (table_entries w rs) (range_with_len 0 256)) ≡ length rs
sum_by-table_entries w rs = counts_below w rs 256 ∙ all_below (file_entries w rs) ∙ length-file_entries w (head_size w) rs

-- the tables from the entries
map_of_map : (w : ℕ) (rs : List KeyValue) (ns : List ℕ) → map (λ n. slots_of (table_entries w rs n)) ns ≡ map slots_of (map (table_entries w rs) ns)
map_of_map w rs [] = refl
map_of_map w rs (n ∷ ns) = ap (λ t. slots_of (table_entries w rs n) ∷ t) (map_of_map w rs ns)

pub tables_are : (w : ℕ) (rs : List KeyValue) → file_tables w rs ≡ map slots_of (map (table_entries w rs) (range_with_len 0 256))
unfolding file_tables table_slots
tables_are w rs = map_of_map w rs (range_with_len 0 256)

tables_size : (w : ℕ) (ls : List (List WordPair)) → sum_by (λ t. length (flat_map (pair_bytes w) t)) (map slots_of ls) ≡ 4 * w * sum_by length ls
tables_size w [] = omega arith
tables_size w (l ∷ ls) =
    let ih = tables_size w ls in
    let one : length (flat_map (pair_bytes w) (slots_of l)) ≡ 4 * w * length l = length-flat_map_words w (slots_of l) ∙ ap (λ (n : ℕ). 2 * w * n) (length-slots_of l) ∙ omega arith in
    let s = sum_by-cons (λ t. length (flat_map (pair_bytes w) t)) (slots_of l) (map slots_of ls) in
    let t = ap (λ (n : ℕ). 4 * w * n) (sum_by-cons length l ls) in
    omega (arith, ih, one, s, t)

pub length-pointers_from : (w at : ℕ) (ts : List (List WordPair)) → length (pointers_from w at ts) ≡ length ts
unfolding pointers_from
length-pointers_from w at [] = refl
length-pointers_from w at (t ∷ ts) = let ih = length-pointers_from w (at + 2 * w * length t) ts in omega (arith, ih)

-- the records' own bytes and two slots for each
pub size_split : (w : ℕ) (rs : List KeyValue) → sum_by (λ r. record_size w r + 4 * w) rs ≡ sum_by (record_size w) rs + 4 * w * length rs
size_split w [] = omega arith
size_split w (x ∷ xs) = omega (arith, size_split w xs, sum_by-cons (record_size w) x xs, sum_by-cons (λ r. record_size w r + 4 * w) x xs)

-- the file has the size that is counted
pub length-file_bytes : (w : ℕ) (rs : List KeyValue) → length (file_bytes w rs) ≡ file_size w rs
unfolding file_bytes file_pointers
length-file_bytes w rs =
    let ls = map (table_entries w rs) (range_with_len 0 256) in
    let t = tables_are w rs in
    let n : length (map slots_of ls) ≡ 256 = length-map ls slots_of ∙ length-map-range_with_len (table_entries w rs) 0 256 in
    let head : length (flat_map (pair_bytes w) (pointers_from w (records_end w rs) (file_tables w rs))) ≡ 2 * w * 256 =
    length-flat_map_words w (pointers_from w (records_end w rs) (file_tables w rs)) ∙ ap (λ (k : ℕ). 2 * w * k) (length-pointers_from w (records_end w rs) (file_tables w rs) ∙ ap length t ∙ n) in
    let tables : length (flat_map (flat_map (pair_bytes w)) (file_tables w rs)) ≡ 4 * w * length rs =
    length-flat_map (flat_map (pair_bytes w)) (file_tables w rs) ∙ ap (sum_by (λ t. length (flat_map (pair_bytes w) t))) t ∙ tables_size w ls ∙ ap (λ (k : ℕ). 4 * w * k) (sum_by-table_entries w rs) in
    let a = length-append (flat_map (pair_bytes w) (pointers_from w (records_end w rs) (file_tables w rs)) ++ flat_map (record_bytes w) rs) (flat_map (flat_map (pair_bytes w)) (file_tables w rs)) in
    let b = length-append (flat_map (pair_bytes w) (pointers_from w (records_end w rs) (file_tables w rs))) (flat_map (record_bytes w) rs) in
    let records = length-records w rs in
    let split = size_split w rs in
    omega (arith, a, b, head, tables, records, split)

-- a count of slots fits if their bytes do
pub slots_within : (w n : ℕ) → (w ≡ 4) ⊎ (w ≡ 8) → 2 * n ≤ 4 * w * n
slots_within w n (inl e) = let p : 4 * w * n ≡ 16 * n = ap (λ (k : ℕ). 4 * k * n) e ∙ omega arith in omega arith
slots_within w n (inr e) = let p : 4 * w * n ≡ 32 * n = ap (λ (k : ℕ). 4 * k * n) e ∙ omega arith in omega arith

-- pointers fit if the tables end within the greatest word
pub pointers_fit : (w at top : ℕ) (ls : List (List WordPair)) → (w ≡ 4) ⊎ (w ≡ 8) → at + 4 * w * sum_by length ls ≤ top → All (PairFits top) (pointers_from w at (map slots_of ls))
unfolding pointers_from
pointers_fit w at top [] ww h = All-nil (PairFits top)
pointers_fit w at top (l ∷ ls) ww h =
    let t : length (slots_of l) ≡ 2 * length l = length-slots_of l in
    let next : at + 2 * w * length (slots_of l) ≡ at + 4 * w * length l = ap (λ (n : ℕ). at + 2 * w * n) t ∙ omega arith in
    let s = ap (λ (n : ℕ). 4 * w * n) (sum_by-cons length l ls) in
    let few = slots_within w (length l) ww in
    All-cons (PairFits top) _ (pointers_from w (at + 2 * w * length (slots_of l)) (map slots_of ls))
    (record { first = omega (arith, s, h); second = omega (arith, s, h, few, t) })
    (pointers_fit w (at + 2 * w * length (slots_of l)) top ls ww (omega (arith, s, h, next)))
