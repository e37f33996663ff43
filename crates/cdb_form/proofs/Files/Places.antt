-- Where the parts of a file begin.
use Rattle.cdb_form.proofs.Words.{KeyValue, List, WordPair, [], ap, append_assoc, arith, drop, drop_at, file_bytes, file_pointers, file_tables, flat_map, head_size, length, length-map, length-map-range_with_len, map, pair_bytes, range_with_len, record_bytes, records_end, slots_of, sum_by, sum_by-cons, table_entries, ℕ, ◌*◌, ◌++◌, ◌∙◌, ◌∷◌, ◌≡◌}
use Rattle.cdb_form.proofs.Bytes.HeadLemmas.{length-flat_map_words}
use Rattle.cdb_form.proofs.Files.Sizes.{length-slots_of, length-pointers_from, sum_by-table_entries, tables_are}

-- the number of slots that some tables have
abbrev pub slot_count : List (List WordPair) → ℕ
slot_count ts = sum_by length ts

twice_entries : (ls : List (List WordPair)) → slot_count (map slots_of ls) ≡ 2 * sum_by length ls
twice_entries [] = omega arith
twice_entries (l ∷ ls) =
    let ih = twice_entries ls in
    let one = length-slots_of l in
    let s = sum_by-cons length (slots_of l) (map slots_of ls) in
    let t = sum_by-cons length l ls in
    omega arith

-- each record has two slots
pub slot_count-file_tables : (w : ℕ) (rs : List KeyValue) → slot_count (file_tables w rs) ≡ 2 * length rs
slot_count-file_tables w rs =
    ap slot_count (tables_are w rs) ∙ twice_entries (map (table_entries w rs) (range_with_len 0 256)) ∙ ap (λ (n : ℕ). 2 * n) (sum_by-table_entries w rs)

pub length-file_pointers : (w : ℕ) (rs : List KeyValue) → length (file_pointers w rs) ≡ 256
unfolding file_pointers
length-file_pointers w rs =
    length-pointers_from w (records_end w rs) (file_tables w rs) ∙ ap length (tables_are w rs)
    ∙ length-map (map (table_entries w rs) (range_with_len 0 256)) slots_of ∙ length-map-range_with_len (table_entries w rs) 0 256

-- the head and the tables as bytes
abbrev pub head_bytes : ℕ → List KeyValue → List ℕ
head_bytes w rs = flat_map (pair_bytes w) (file_pointers w rs)

abbrev pub tables_bytes : ℕ → List KeyValue → List ℕ
tables_bytes w rs = flat_map (flat_map (pair_bytes w)) (file_tables w rs)

length-head_bytes : (w : ℕ) (rs : List KeyValue) → length (head_bytes w rs) ≡ head_size w
length-head_bytes w rs = length-flat_map_words w (file_pointers w rs) ∙ ap (λ (n : ℕ). 2 * w * n) (length-file_pointers w rs) ∙ omega arith

pub file_of_is : (w : ℕ) (rs : List KeyValue) → file_bytes w rs ≡ head_bytes w rs ++ (flat_map (record_bytes w) rs ++ tables_bytes w rs)
unfolding file_bytes
file_of_is w rs = append_assoc (head_bytes w rs) (flat_map (record_bytes w) rs) (tables_bytes w rs)

-- what follows the head
pub drop-head : (w : ℕ) (rs : List KeyValue) → drop (head_size w) (file_bytes w rs) ≡ flat_map (record_bytes w) rs ++ tables_bytes w rs
drop-head w rs = ap (drop (head_size w)) (file_of_is w rs) ∙ drop_at (head_bytes w rs) (flat_map (record_bytes w) rs ++ tables_bytes w rs) (head_size w) (length-head_bytes w rs)
