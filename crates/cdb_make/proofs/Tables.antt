-- The entries of a roll, by their tables.
use Rattle.cdb_make.proofs.Words.{All, KeyValue, List, Roll, Sees, WordPair, [], ap, arith, cases_eq, entries_from, entries_in, entries_of, get_or, head_size, in_table, inl, inr, key_hash, length, length-append, length-set, map, mul-le-mul_left, nat_tests, places_from, places_in, record_size, refl, replicate, roll_entries, roll_tables, slice_set, suc, sum_by, sum_by-append, sym, table_entries, table_number, tables_of, take, zero, ℕ, ◌*◌, ◌++◌, ◌+◌, ◌-◌, ◌<◌, ◌∙◌, ◌∷◌, ◌≡◌, ◌≤◌}
use Rattle.std.specs.List.{range_with_len, filter}
use Rattle.std.proofs.lemmas.List.{ext_get_or, get_or-set_same, get_or-set_other, append-nil, length-map, get_or-map, map-set, length-replicate, get_or-replicate, get_or_default}
use Rattle.std.proofs.lemmas.List.Elements.{filter-append}
use Rattle.std.proofs.lemmas.List.FromFn.{get_or-map-range_with_len, length-map-range_with_len, map-range_with_len_more, sum_by-map-range_with_len_more}
use Rattle.cdb_form.specs.declared.width.Width.{Ghosts as Widths}

-- ---- hashes and places side by side

pub length-entries_of : (hs ps : List ℕ) → length ps ≡ length hs → length (entries_of hs ps) ≡ length hs
length-entries_of [] ps e = refl
length-entries_of (h ∷ hs) [] e = absurd (omega arith)
length-entries_of (h ∷ hs) (p ∷ ps) e = ap suc (length-entries_of hs ps (omega arith))

pub get_or-entries_of : (hs ps : List ℕ) (k h p : ℕ) (d : WordPair) → length ps ≡ length hs → k < length hs → h ≡ get_or hs k h → p ≡ get_or ps k p → get_or (entries_of hs ps) k d ≡ record { first = h; second = p }
get_or-entries_of [] ps k h p d e lt eh ep = absurd (omega arith)
get_or-entries_of (x ∷ hs) [] k h p d e lt eh ep = absurd (omega arith)
get_or-entries_of (x ∷ hs) (y ∷ ps) zero h p d e lt eh ep = ap (λ (n : ℕ). let q : WordPair = record { first = n; second = y } in q) (sym eh) ∙ ap (λ (n : ℕ). let q : WordPair = record { first = h; second = n } in q) (sym ep)
get_or-entries_of (x ∷ hs) (y ∷ ps) (suc k) h p d e lt eh ep = get_or-entries_of hs ps k h p d (omega arith) (omega arith) eh ep

pub entries_push : (hs ps : List ℕ) (h p : ℕ) → length ps ≡ length hs → entries_of (hs ++ h ∷ []) (ps ++ p ∷ []) ≡ entries_of hs ps ++ record { first = h; second = p } ∷ []
entries_push [] [] h p e = refl
entries_push [] (y ∷ ps) h p e = absurd (omega arith)
entries_push (x ∷ hs) [] h p e = absurd (omega arith)
entries_push (x ∷ hs) (y ∷ ps) h p e = ap (λ (v : List WordPair). let q : WordPair = record { first = x; second = y } in q ∷ v) (entries_push hs ps h p (omega arith))

pub roll_long : {L : Type 0} {l : Widths L} (m : Roll L l) → length (roll_entries m) ≡ length m.hashes.items
roll_long m = length-entries_of m.hashes.items (places_in m.places) m.paired

-- ---- by table

pub length-tables_of : (es : List WordPair) (first count : ℕ) → length (tables_of es first count) ≡ count
unfolding tables_of
length-tables_of es first count = length-map-range_with_len (entries_in es) first count

pub table_at : (es : List WordPair) (first count k n : ℕ) → k < count → first + k ≡ n → get_or (tables_of es first count) k [] ≡ entries_in es n
unfolding tables_of
table_at es first count k n lt e = get_or-map-range_with_len (entries_in es) first count k n [] lt e

one_in : (n : ℕ) (e : WordPair) → table_number e.first ≡ n → entries_in (e ∷ []) n ≡ e ∷ []
one_in n e h = grind (arith, nat_tests)

one_out : (n : ℕ) (e : WordPair) → (table_number e.first ≡ n → ⊥) → entries_in (e ∷ []) n ≡ []
one_out n e h = grind (arith, nat_tests)

-- one entry more of one of some tables
pub tables_more : (es : List WordPair) (e : WordPair) (first count n : ℕ) → n < count → first + n ≡ table_number e.first
    → slice_set (tables_of es first count) n (get_or (tables_of es first count) n [] ++ e ∷ []) ≡ tables_of (es ++ e ∷ []) first count
tables_more es e first count n lt is =
    let ts : List (List WordPair) = tables_of es first count in
    let us : List (List WordPair) = slice_set ts n (get_or ts n [] ++ e ∷ []) in
    let many : length ts ≡ count = length-tables_of es first count in
    let long : length us ≡ count = length-set ts n _ ∙ many in
    ext_get_or [] us (tables_of (es ++ e ∷ []) first count) (long ∙ sym (length-tables_of (es ++ e ∷ []) first count)) (λ k below.
    let room : k < count = omega arith in
    let after : get_or (tables_of (es ++ e ∷ []) first count) k [] ≡ entries_in es (first + k) ++ entries_in (e ∷ []) (first + k) =
    table_at (es ++ e ∷ []) first count k (first + k) room refl ∙ filter-append (in_table (first + k)) es (e ∷ []) in
    elim (cases_eq k n) [
      | inl here ↦
          ap (λ (j : ℕ). get_or us j []) here ∙ get_or-set_same ts n _ [] (omega arith) ∙ ap (λ v. v ++ e ∷ []) (table_at es first count n (first + k) lt (omega arith))
          ∙ ap (λ v. entries_in es (first + k) ++ v) (sym (one_in (first + k) e (omega arith))) ∙ sym after
      | inr other ↦
          get_or-set_other ts n k _ [] other ∙ table_at es first count k (first + k) room refl ∙ sym (append-nil (entries_in es (first + k)))
          ∙ ap (λ v. entries_in es (first + k) ++ v) (sym (one_out (first + k) e (λ t. other (omega arith)))) ∙ sym after
    ])

-- and of none of them
pub tables_same : (es : List WordPair) (e : WordPair) (first count : ℕ) → ((n : ℕ) → n < count → first + n ≡ table_number e.first → ⊥) → tables_of es first count ≡ tables_of (es ++ e ∷ []) first count
tables_same es e first count none =
    ext_get_or [] (tables_of es first count) (tables_of (es ++ e ∷ []) first count) (length-tables_of es first count ∙ sym (length-tables_of (es ++ e ∷ []) first count)) (λ k below.
    let room : k < count = omega (arith, length-tables_of es first count) in
    table_at es first count k (first + k) room refl ∙ sym (append-nil (entries_in es (first + k)))
    ∙ ap (λ v. entries_in es (first + k) ++ v) (sym (one_out (first + k) e (λ t. none k room (sym t))))
    ∙ sym (table_at (es ++ e ∷ []) first count k (first + k) room refl ∙ filter-append (in_table (first + k)) es (e ∷ [])))

-- no entries
pub tables_none : (first count : ℕ) (ts : List (List WordPair)) → length ts ≡ count → ((k : ℕ) → get_or ts k [] ≡ []) → ts ≡ tables_of [] first count
tables_none first count ts long none = ext_get_or [] ts (tables_of [] first count) (long ∙ sym (length-tables_of [] first count)) (λ k lt. none k ∙ sym (table_at [] first count k (first + k) (omega arith) refl))

-- tables from a number on, and the tables after them
pub tables_split : (es : List WordPair) (first n m : ℕ) → tables_of es first (n + m) ≡ tables_of es first n ++ tables_of es (first + n) m
unfolding tables_of
tables_split es first n zero = let e : n + 0 ≡ n = omega arith in ap (λ (k : ℕ). map (entries_in es) (range_with_len first k)) e ∙ sym (append-nil (map (entries_in es) (range_with_len first n)))
tables_split es first n (suc m) =
    let e : n + suc m ≡ n + m + 1 = omega arith in
    let f : suc m ≡ m + 1 = omega arith in
    let ih : tables_of es first (n + m) ≡ tables_of es first n ++ tables_of es (first + n) m = tables_split es first n m in
    ap (λ (k : ℕ). map (entries_in es) (range_with_len first k)) e
    ∙ map-range_with_len_more (entries_in es) first (n + m) (first + (n + m)) refl
    ∙ ap (λ v. v ++ entries_in es (first + (n + m)) ∷ []) ih
    ∙ Rattle.std.proofs.Common.append_assoc (tables_of es first n) (tables_of es (first + n) m) (entries_in es (first + (n + m)) ∷ [])
    ∙ ap (λ v. tables_of es first n ++ v) (sym (map-range_with_len_more (entries_in es) (first + n) m (first + (n + m)) (omega arith)))
    ∙ ap (λ (k : ℕ). tables_of es first n ++ map (entries_in es) (range_with_len (first + n) k)) (sym f)

-- ---- how many they are

total_more : (es : List WordPair) (k : ℕ) → sum_by length (tables_of es 0 (k + 1)) ≡ sum_by length (tables_of es 0 k) + length (entries_in es k)
unfolding tables_of
total_more es k = sum_by-map-range_with_len_more length (entries_in es) 0 k k (omega arith)

in_more : (es : List WordPair) (e : WordPair) (k : ℕ) → table_number e.first ≡ k → length (entries_in (e ∷ es) k) ≡ length (entries_in es k) + 1
in_more es e k is = grind (arith, nat_tests)

out_same : (es : List WordPair) (e : WordPair) (k : ℕ) → (table_number e.first ≡ k → ⊥) → length (entries_in (e ∷ es) k) ≡ length (entries_in es k)
out_same es e k apart = grind (arith, nat_tests)

none_yet : (es : List WordPair) (e : WordPair) (count : ℕ) → count ≤ table_number e.first → sum_by length (tables_of (e ∷ es) 0 count) ≡ sum_by length (tables_of es 0 count)
unfolding tables_of
none_yet es e zero le = refl
none_yet es e (suc k) le =
    let f : suc k ≡ k + 1 = omega arith in
    let same : sum_by length (tables_of (e ∷ es) 0 (k + 1)) ≡ sum_by length (tables_of es 0 (k + 1)) =
    total_more (e ∷ es) k ∙ ap (λ (n : ℕ). n + length (entries_in (e ∷ es) k)) (none_yet es e k (omega arith)) ∙ ap (λ (n : ℕ). sum_by length (tables_of es 0 k) + n) (out_same es e k (λ is. omega arith)) ∙ sym (total_more es k) in
    ap (λ (n : ℕ). sum_by length (tables_of (e ∷ es) 0 n)) f ∙ same ∙ ap (λ (n : ℕ). sum_by length (tables_of es 0 n)) (sym f)

one_yet : (es : List WordPair) (e : WordPair) (count : ℕ) → table_number e.first < count → sum_by length (tables_of (e ∷ es) 0 count) ≡ sum_by length (tables_of es 0 count) + 1
unfolding tables_of
one_yet es e zero lt = absurd (omega arith)
one_yet es e (suc k) lt =
    let f : suc k ≡ k + 1 = omega arith in
    let more : sum_by length (tables_of (e ∷ es) 0 (k + 1)) ≡ sum_by length (tables_of es 0 (k + 1)) + 1 =
    elim (cases_eq (table_number e.first) k) [
      | inl is ↦ omega (arith, total_more (e ∷ es) k, total_more es k, none_yet es e k (omega arith), in_more es e k is)
      | inr apart ↦ omega (arith, total_more (e ∷ es) k, total_more es k, one_yet es e k (omega arith), out_same es e k apart)
    ] in
    ap (λ (n : ℕ). sum_by length (tables_of (e ∷ es) 0 n)) f ∙ more ∙ ap (λ (n : ℕ). sum_by length (tables_of es 0 n) + 1) (sym f)

nothing : (count : ℕ) → sum_by length (tables_of [] 0 count) ≡ 0
unfolding tables_of
nothing zero = refl
nothing (suc k) =
    let f : suc k ≡ k + 1 = omega arith in
    let more : sum_by length (tables_of [] 0 (k + 1)) ≡ 0 = omega (arith, total_more [] k, nothing k) in
    ap (λ (n : ℕ). sum_by length (tables_of [] 0 n)) f ∙ more

-- each entry is in one table
pub tables_sum : (es : List WordPair) → sum_by length (tables_of es 0 256) ≡ length es
tables_sum [] = nothing 256
tables_sum (e ∷ es) = let small : table_number e.first < 256 = omega arith in omega (arith, one_yet es e 256 small, tables_sum es)

-- those of some tables are not more than all
pub tables_within : (es : List WordPair) (first count : ℕ) → first + count ≤ 256 → sum_by length (tables_of es 0 first) + sum_by length (tables_of es first count) ≤ length es
tables_within es first count le =
    let rest : ℕ = 256 - (first + count) in
    let e : first + count + rest ≡ 256 = omega arith in
    let all : sum_by length (tables_of es 0 (first + count + rest)) ≡ length es = ap (λ (n : ℕ). sum_by length (tables_of es 0 n)) e ∙ tables_sum es in
    let a = ap (sum_by length) (tables_split es 0 (first + count) rest) ∙ sum_by-append length (tables_of es 0 (first + count)) (tables_of es (0 + (first + count)) rest) in
    let b = ap (sum_by length) (tables_split es 0 first count) ∙ sum_by-append length (tables_of es 0 first) (tables_of es (0 + first) count) in
    let z : 0 + first ≡ first = omega arith in
    let same : sum_by length (tables_of es (0 + first) count) ≡ sum_by length (tables_of es first count) = ap (λ (n : ℕ). sum_by length (tables_of es n count)) z in
    omega (arith, all, a, b, same)

-- what a table has of the first entries, one more and all
pub entries_more : (es : List WordPair) (n k : ℕ) (e : WordPair) → k < length es → get_or es k e ≡ e → table_number e.first ≡ n → length (entries_in (take k es) n) < length (entries_in es n)
entries_more [] n k e lt is at = absurd (omega arith)
entries_more (x ∷ es) n zero e lt is at = omega (arith, in_more es x n (ap (λ (q : WordPair). table_number q.first) is ∙ at))
entries_more (x ∷ es) n (suc k) e lt is at =
    let h = entries_more es n k e (omega arith) is at in
    elim (cases_eq (table_number x.first) n) [
      | inl here ↦ omega (arith, in_more es x n here, in_more (take k es) x n here)
      | inr apart ↦ omega (arith, out_same es x n apart, out_same (take k es) x n apart)
    ]

-- one entry more, as the count of its table
pub counts_push : (es : List WordPair) (e : WordPair) (counts : List ℕ) (n : ℕ) → n ≡ table_number e.first → counts ≡ map length (tables_of es 0 256)
    → slice_set counts n (get_or counts n 0 + 1) ≡ map length (tables_of (es ++ e ∷ []) 0 256)
counts_push es e counts n is eq =
    let ts : List (List WordPair) = tables_of es 0 256 in
    let small : table_number e.first < 256 = omega arith in
    let lt : n < length ts = omega (arith, length-tables_of es 0 256) in
    let here : get_or counts n 0 ≡ length (get_or ts n []) = ap (λ (v : List ℕ). get_or v n 0) eq ∙ get_or-map length ts n [] 0 lt in
    let one : length (get_or ts n [] ++ e ∷ []) ≡ get_or counts n 0 + 1 = length-append (get_or ts n []) (e ∷ []) ∙ omega arith in
    ap (λ (v : List ℕ). slice_set v n (get_or counts n 0 + 1)) eq
    ∙ ap (slice_set (map length ts) n) (sym one)
    ∙ sym (map-set length ts n (get_or ts n [] ++ e ∷ []))
    ∙ ap (map length) (tables_more es e 0 256 n (omega arith) (omega arith))

-- ---- the tables of a roll are those of the records that it notes

entries_are : (w at : ℕ) (rs : List KeyValue) → entries_of (map (λ r. key_hash r.key) rs) (places_from at (map (record_size w) rs)) ≡ entries_from w at rs
unfolding entries_from
entries_are w at [] = refl
entries_are w at (r ∷ rs) = ap (λ v. record { first = key_hash r.key; second = at } ∷ v) (entries_are w (at + record_size w r) rs)

tables_are : (w : ℕ) (es : List WordPair) (rs : List KeyValue) → es ≡ entries_from w (head_size w) rs → tables_of es 0 256 ≡ map (table_entries w rs) (range_with_len 0 256)
unfolding tables_of table_entries
tables_are w es rs e = ap (λ v. map (λ n. filter (in_table n) v) (range_with_len 0 256)) e

pub roll_tables_are : {L : Type 0} {l : Widths L} (m : Roll L l) (all : List KeyValue) (b : List ℕ) → Sees m all b → roll_tables m ≡ map (table_entries l.WORD all) (range_with_len 0 256)
roll_tables_are {l = l} m all b h =
    tables_are l.WORD (roll_entries m) all (ap (λ v. entries_of v (places_in m.places)) h.hashes ∙ ap (entries_of (map (λ r. key_hash r.key) all)) h.of.are ∙ entries_are l.WORD (head_size l.WORD) all)

-- ---- counts

pub counts_none : replicate 256 0 ≡ map length (tables_of [] 0 256)
counts_none =
    let long : length (map length (tables_of [] 0 256)) ≡ 256 = length-map (tables_of [] 0 256) length ∙ length-tables_of [] 0 256 in
    ext_get_or 0 (replicate 256 0) (map length (tables_of [] 0 256)) (length-replicate {A = ℕ} 256 0 ∙ sym long) (λ k lt.
    let room : k < 256 = omega (arith, length-replicate {A = ℕ} 256 0) in
    get_or-replicate {A = ℕ} 256 k 0 0 room ∙ sym (get_or-map length (tables_of [] 0 256) k [] 0 (omega (arith, length-tables_of [] 0 256)) ∙ ap length (table_at [] 0 256 k k room (omega arith))))

-- no table has more entries than there are
entries_few : (es : List WordPair) (n : ℕ) → length (entries_in es n) ≤ length es
entries_few [] n = omega arith
entries_few (e ∷ es) n = elim (cases_eq (table_number e.first) n) [
  | inl is ↦ omega (arith, in_more es e n is, entries_few es n)
  | inr apart ↦ omega (arith, out_same es e n apart, entries_few es n)
]

pub counts_few : (es : List WordPair) (counts : List ℕ) (n : ℕ) → n < 256 → counts ≡ map length (tables_of es 0 256) → get_or counts n 0 ≤ length es
counts_few es counts n lt eq =
    let here : get_or counts n 0 ≡ length (entries_in es n) = ap (λ (v : List ℕ). get_or v n 0) eq ∙ get_or-map length (tables_of es 0 256) n [] 0 (omega (arith, length-tables_of es 0 256)) ∙ ap length (table_at es 0 256 n n lt (omega arith)) in
    omega (arith, here, entries_few es n)

pub counts_at_most : (es : List WordPair) (counts : List ℕ) (most : ℕ) → length es ≡ most → counts ≡ map length (tables_of es 0 256) → All (λ count. count ≤ most) counts
counts_at_most es counts most long eq = λ k d lt.
    let many : length counts ≡ 256 = ap length eq ∙ length-map (tables_of es 0 256) length ∙ length-tables_of es 0 256 in
    omega (arith, get_or_default counts k d 0 lt, counts_few es counts k (omega arith) eq)

-- ---- a group of tables

pub group_room : (es : List WordPair) (counts rooms : List ℕ) (group count : ℕ) → count ≡ 32 → group < 8 → counts ≡ map length (tables_of es 0 256) → ((i k : ℕ) → i < 8 → k < 32 → get_or counts (32 * i + k) 0 ≤ get_or rooms k 0)
    → (k : ℕ) → k < count → length (get_or (tables_of es (32 * group) count) k []) ≤ get_or rooms k 0
group_room es counts rooms group count many lt eq each k below =
    let n : ℕ = 32 * group + k in
    let here : length (get_or (tables_of es (32 * group) count) k []) ≡ length (entries_in es n) = ap length (table_at es (32 * group) count k n below refl) in
    let told : get_or counts n 0 ≡ length (entries_in es n) = ap (λ (v : List ℕ). get_or v n 0) eq ∙ get_or-map length (tables_of es 0 256) n [] 0 (omega (arith, length-tables_of es 0 256)) ∙ ap length (table_at es 0 256 n n (omega arith) (omega arith)) in
    omega (arith, here, told, each group k lt (omega arith))

pub group_runs : (es : List WordPair) (ls : List (List WordPair)) (group count most : ℕ) → ls ≡ tables_of es (32 * group) count → count ≡ 32 → group < 8 → All (λ t. 2 * length t ≤ most) (tables_of es 0 256) → All (λ t. 2 * length t ≤ most) ls
group_runs es ls group count most is many lt all = λ k d below.
    let long : length ls ≡ count = ap length is ∙ length-tables_of es (32 * group) count in
    let n : ℕ = 32 * group + k in
    let here : get_or ls k d ≡ entries_in es n = get_or_default ls k d [] below ∙ ap (λ v. get_or v k []) is ∙ table_at es (32 * group) count k n (omega arith) refl in
    let there : get_or (tables_of es 0 256) n [] ≡ entries_in es n = table_at es 0 256 n n (omega arith) (omega arith) in
    omega (arith, ap length here, ap length there, all n [] (omega (arith, length-tables_of es 0 256)))

pub group_next : (es : List WordPair) (ls : List (List WordPair)) (group count : ℕ) → ls ≡ tables_of es (32 * group) count → count ≡ 32 → tables_of es 0 (32 * group) ++ ls ≡ tables_of es 0 (32 * (group + 1))
group_next es ls group count is many =
    let e : 32 * group + count ≡ 32 * (group + 1) = omega arith in
    let z : 0 + 32 * group ≡ 32 * group = omega arith in
    ap (λ v. tables_of es 0 (32 * group) ++ v) (is ∙ ap (λ (n : ℕ). tables_of es n count) (sym z)) ∙ sym (tables_split es 0 (32 * group) count) ∙ ap (tables_of es 0) e

pub group_sum : (k : ℕ) (es : List WordPair) (ls : List (List WordPair)) (group count : ℕ) → ls ≡ tables_of es (32 * group) count → count ≡ 32 → group < 8
    → (k * sum_by length (tables_of es 0 (32 * group)) + k * sum_by length ls ≤ k * sum_by length (tables_of es 0 256)) × (k * sum_by length (tables_of es 0 (32 * (group + 1))) ≡ k * sum_by length (tables_of es 0 (32 * group)) + k * sum_by length ls)
group_sum k es ls group count is many lt =
    let same : sum_by length ls ≡ sum_by length (tables_of es (32 * group) count) = ap (sum_by length) is in
    let a : sum_by length (tables_of es 0 (32 * group)) + sum_by length ls ≤ sum_by length (tables_of es 0 256) = omega (arith, same, tables_within es (32 * group) count (omega arith), tables_sum es) in
    let b : sum_by length (tables_of es 0 (32 * (group + 1))) ≡ sum_by length (tables_of es 0 (32 * group)) + sum_by length ls = ap (sum_by length) (sym (group_next es ls group count is many)) ∙ sum_by-append length (tables_of es 0 (32 * group)) ls in
    (omega (arith, mul-le-mul_left k a), ap (λ (n : ℕ). k * n) b ∙ omega arith)

pub no_tables : (es : List WordPair) → tables_of es 0 (32 * 0) ≡ []
unfolding tables_of
no_tables es = refl
