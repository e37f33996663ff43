-- The tables of the file of some records: where they lie, and that they are read back.
use Rattle.cdb_read.proofs.Words.{KeyValue, List, PairFits, [], and_from, ap, arith, drop, drop-drop, drop_at, flat_map, get_or, get_or-map-range_with_len, is_inside, le-leb, length, length-map-range_with_len, map, nth_pair, range_with_len, record_bytes, record_size, records_end, recursion_from_All, refl, slots_at, suc, sum_by, sym, take, true, zero, ℕ, ◌*◌, ◌++◌, ◌+◌, ◌<◌, ◌∙◌, ◌∷◌, ◌≡◌, ◌≤◌}
use Rattle.std.proofs.lemmas.List.Sums.{sum_by-cons, sum_by_more_le}
use Rattle.cdb_form.specs.Format.{WordPair, pair_bytes, head_size, empty_slot, table_slots, file_tables, pointers_from, file_pointers, file_bytes}
use Rattle.cdb_form.proofs.Bytes.HeadLemmas.{length-flat_map_words}
use Rattle.cdb_form.proofs.Files.Places.{slot_count, slot_count-file_tables, length-file_pointers, tables_bytes, file_of_is, drop-head}
use Rattle.cdb_form.proofs.Bytes.ReadBack.{nth_pair-flat_map, map-nth_pair}
use Rattle.cdb_form.proofs.Files.Sizes.{length-records, length-file_bytes}
use Rattle.cdb_form.proofs.Files.WalkLaws.{Fit-file_pointers}
use Rattle.cdb_read.proofs.FilledTables.Fits.{Fit, size_is, table_fits}

length-file_tables : (w : ℕ) (rs : List KeyValue) → length (file_tables w rs) ≡ 256
unfolding file_tables
length-file_tables w rs = length-map-range_with_len (table_slots w rs) 0 256

plus_none : (n : ℕ) → 0 + n ≡ n
plus_none n = omega arith

get_or-file_tables : (w : ℕ) (rs : List KeyValue) (n : ℕ) → n < 256 → get_or (file_tables w rs) n [] ≡ table_slots w rs n
unfolding file_tables
get_or-file_tables w rs n low = get_or-map-range_with_len (table_slots w rs) 0 256 n n [] low (plus_none n)

-- the number of slots that lie before table n
abbrev pub slots_before : ℕ → List KeyValue → ℕ → ℕ
slots_before w rs n = slot_count (take n (file_tables w rs))

abbrev pointer_to : ℕ → List WordPair → WordPair
pointer_to place t = record { first = place; second = length t }

-- the pointer of table n
abbrev pub table_pointer : ℕ → List KeyValue → ℕ → WordPair
table_pointer w rs n = pointer_to (records_end w rs + 2 * w * slots_before w rs n) (table_slots w rs n)

get_or-pointers_from : (w at i : ℕ) (ts : List (List WordPair)) (d : WordPair) → i < length ts → get_or (pointers_from w at ts) i d ≡ pointer_to (at + 2 * w * slot_count (take i ts)) (get_or ts i [])
unfolding pointers_from
get_or-pointers_from w at i [] d h = absurd (omega arith)
get_or-pointers_from w at zero (t ∷ ts) d h = let e : at ≡ at + 2 * w * 0 = omega arith in ap (λ p. pointer_to p t) e
get_or-pointers_from w at (suc i) (t ∷ ts) d h =
    let both = sum_by-cons length t (take i ts) in
    let e : at + 2 * w * length t + 2 * w * slot_count (take i ts) ≡ at + 2 * w * slot_count (t ∷ take i ts) = rw both (omega arith) in
    get_or-pointers_from w (at + 2 * w * length t) i ts d (omega arith) ∙ ap (λ p. pointer_to p (get_or ts i [])) e

get_or-file_pointers : (w : ℕ) (rs : List KeyValue) (n : ℕ) → n < 256 → get_or (file_pointers w rs) n empty_slot ≡ table_pointer w rs n
unfolding file_pointers
get_or-file_pointers w rs n low =
    let many = length-file_tables w rs in
    get_or-pointers_from w (records_end w rs) n (file_tables w rs) empty_slot (omega arith)
    ∙ ap (pointer_to (records_end w rs + 2 * w * slots_before w rs n)) (get_or-file_tables w rs n low)

-- it is read back
pub nth_pair-file_bytes : {w top : ℕ} {rs : List KeyValue} (n : ℕ) → Fit w top rs → n < 256 → nth_pair w (file_bytes w rs) n ≡ table_pointer w rs n
nth_pair-file_bytes {w = w} {top = top} {rs = rs} n f low =
    let many = length-file_pointers w rs in
    ap (λ b. nth_pair w b n) (file_of_is w rs)
    ∙ nth_pair-flat_map w top n (file_pointers w rs) empty_slot (flat_map (record_bytes w) rs ++ tables_bytes w rs) f.top_is (omega arith) (Fit-file_pointers w top rs f.width f.room)
    ∙ get_or-file_pointers w rs n low

-- table i lies at the place in its pointer
abbrev bytes_of_tables : ℕ → List (List WordPair) → List ℕ
bytes_of_tables w ts = flat_map (flat_map (pair_bytes w)) ts

drop-tables : (w i : ℕ) (ts : List (List WordPair)) → i < length ts → drop (2 * w * slot_count (take i ts)) (bytes_of_tables w ts) ≡ flat_map (pair_bytes w) (get_or ts i []) ++ bytes_of_tables w (drop (suc i) ts)
drop-tables w i [] h = absurd (omega arith)
drop-tables w zero (t ∷ ts) h = let e : 2 * w * 0 ≡ 0 = omega arith in ap (λ n. drop n (bytes_of_tables w (t ∷ ts))) e
drop-tables w (suc i) (t ∷ ts) h =
    let both = sum_by-cons length t (take i ts) in
    let e : 2 * w * slot_count (t ∷ take i ts) ≡ 2 * w * length t + 2 * w * slot_count (take i ts) = rw both (omega arith) in
    ap (λ n. drop n (bytes_of_tables w (t ∷ ts))) e
    ∙ sym (drop-drop (2 * w * slot_count (take i ts)) (2 * w * length t) (bytes_of_tables w (t ∷ ts)))
    ∙ ap (drop (2 * w * slot_count (take i ts))) (drop_at (flat_map (pair_bytes w) t) (bytes_of_tables w ts) (2 * w * length t) (length-flat_map_words w t))
    ∙ drop-tables w i ts (omega arith)

drop-records : (w : ℕ) (rs : List KeyValue) → drop (records_end w rs) (file_bytes w rs) ≡ tables_bytes w rs
drop-records w rs =
    sym (drop-drop (sum_by (record_size w) rs) (head_size w) (file_bytes w rs))
    ∙ ap (drop (sum_by (record_size w) rs)) (drop-head w rs)
    ∙ drop_at (flat_map (record_bytes w) rs) (tables_bytes w rs) (sum_by (record_size w) rs) (length-records w rs)

-- its slots are read back
pub slots_at-file_bytes : {w top : ℕ} {rs : List KeyValue} (n : ℕ) → Fit w top rs → n < 256 → slots_at w (file_bytes w rs) (table_pointer w rs n) ≡ table_slots w rs n
slots_at-file_bytes {w = w} {top = top} {rs = rs} n f low =
    let many = length-file_tables w rs in
    let behind = bytes_of_tables w (drop (suc n) (file_tables w rs)) in
    let here : drop (records_end w rs + 2 * w * slots_before w rs n) (file_bytes w rs) ≡ flat_map (pair_bytes w) (table_slots w rs n) ++ behind =
    sym (drop-drop (2 * w * slots_before w rs n) (records_end w rs) (file_bytes w rs))
    ∙ ap (drop (2 * w * slots_before w rs n)) (drop-records w rs)
    ∙ drop-tables w n (file_tables w rs) (omega arith)
    ∙ ap (λ (t : List WordPair). flat_map (pair_bytes w) t ++ behind) (get_or-file_tables w rs n low) in
    ap (λ b. map (nth_pair w b) (range_with_len 0 (length (table_slots w rs n)))) here
    ∙ map-nth_pair w top (length (table_slots w rs n)) (table_slots w rs n) behind f.top_is refl (recursion_from_All (PairFits top) (table_slots w rs n) (table_fits n f))

scaled : (w a b c : ℕ) → a + b ≤ c → 2 * w * a + 2 * w * b ≤ 2 * w * c
scaled zero a b c h = omega arith
scaled (suc w) a b c h = let ih = scaled w a b c h in omega arith

-- and it lies inside the file
pub is_inside-file_bytes : (w : ℕ) (rs : List KeyValue) (n : ℕ) → n < 256 → is_inside w (file_bytes w rs) (table_pointer w rs n) ≡ true
is_inside-file_bytes w rs n low =
    let many = length-file_tables w rs in
    let part : slots_before w rs n + length (get_or (file_tables w rs) n []) ≤ slot_count (file_tables w rs) = sum_by_more_le length (file_tables w rs) n [] (omega arith) in
    let same = ap length (get_or-file_tables w rs n low) in
    let count = slot_count-file_tables w rs in
    let times = scaled w (slots_before w rs n) (length (table_slots w rs n)) (2 * length rs) (omega arith) in
    let size = size_is w rs in
    let long = length-file_bytes w rs in
    and_from _ _ (le-leb (head_size w) (records_end w rs + 2 * w * slots_before w rs n) (omega arith))
    (le-leb (records_end w rs + 2 * w * slots_before w rs n + 2 * w * length (table_slots w rs n)) (length (file_bytes w rs)) (omega arith))
