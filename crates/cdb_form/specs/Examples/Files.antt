-- Files that were worked out by hand, and what the definitions make of them.
use Rattle.std.specs.Prelude.{ℕ, List, ◌+◌, [], ◌∷◌, ◌++◌, length, take, drop, flat_map, replicate, ◌≡◌, codes, refl}
use Rattle.cdb_form.specs.Format.{file_bytes, file_pointers, pointers_from, pair_bytes, KeyValue, record_bytes, file_tables, table_slots, filled_slots, slots_with, table_entries, entries_from, key_hash, WordPair}

-- ---- Files that were worked out by hand.

-- two words
unfoldable pub words_of : ℕ → ℕ → ℕ → List ℕ
words_of w first second = pair_bytes w (record { first = first; second = second })

-- some bytes, so many times
unfoldable pub repeat : ℕ → List ℕ → List ℕ
repeat n bytes = flat_map {X = ℕ} (λ b. bytes) (replicate n 0)

-- the bytes with some others from a place on
unfoldable pub put_at : ℕ → List ℕ → List ℕ → List ℕ
put_at place new bytes = take place bytes ++ new ++ drop (place + length new) bytes

-- two records
unfoldable pub two_records : List KeyValue
two_records =
    record { key = codes "one"; value = codes "Hello" }
    ∷ record { key = codes "two"; value = codes "Goodbye" } ∷ []

-- and their file
unfoldable pub two_file : List ℕ
unfolding words_of repeat
two_file =
    repeat 41 (words_of 4 2082 0) ++ words_of 4 2082 2 ++ repeat 87 (words_of 4 2098 0)
    ++ words_of 4 2098 2 ++ repeat 126 (words_of 4 2114 0)
    ++ (3 ∷ 0 ∷ 0 ∷ 0 ∷ 5 ∷ 0 ∷ 0 ∷ 0 ∷ []) ++ codes "oneHello"
    ++ (3 ∷ 0 ∷ 0 ∷ 0 ∷ 7 ∷ 0 ∷ 0 ∷ 0 ∷ []) ++ codes "twoGoodbye"
    ++ (0x29 ∷ 0x60 ∷ 0x87 ∷ 0x0b ∷ 0x10 ∷ 0x08 ∷ 0 ∷ 0 ∷ 0 ∷ 0 ∷ 0 ∷ 0 ∷ 0 ∷ 0 ∷ 0 ∷ 0 ∷ [])
    ++ (0 ∷ 0 ∷ 0 ∷ 0 ∷ 0 ∷ 0 ∷ 0 ∷ 0 ∷ 0x81 ∷ 0x5b ∷ 0x87 ∷ 0x0b ∷ 0 ∷ 8 ∷ 0 ∷ 0 ∷ [])

two_file_is : file_bytes 4 two_records ≡ two_file
unfolding file_bytes file_tables table_slots filled_slots slots_with table_entries entries_from file_pointers pointers_from record_bytes two_records two_file words_of repeat
two_file_is = refl

-- one record, made by another program: a table of one slot, and no place of the other tables
unfoldable pub foreign_file : List ℕ
unfolding words_of
foreign_file =
    replicate 1568 0 ++ words_of 4 2058 1 ++ replicate 472 0
    ++ words_of 4 1 1 ++ codes "a1"
    ++ words_of 4 177604 2048

-- words of 8 bytes: one record
unfoldable pub wide_records : List KeyValue
wide_records = record { key = codes "one"; value = codes "Hello" } ∷ []

unfoldable pub wide_file : List ℕ
unfolding file_bytes file_tables table_slots filled_slots slots_with table_entries entries_from file_pointers pointers_from record_bytes wide_records
wide_file = file_bytes 8 wide_records

wide_length : length wide_file ≡ 4152
unfolding file_bytes file_tables table_slots filled_slots slots_with table_entries entries_from file_pointers pointers_from record_bytes wide_records wide_file
wide_length = refl

-- ---- Hashes, tables and files, computed from the definitions.

-- Worked examples: hashes, tables and files, computed from the definitions.
hash_none : key_hash [] ≡ 5381
hash_none = refl

hash_a : key_hash (codes "a") ≡ 177604
hash_a = refl

hash_one : key_hash (codes "one") ≡ 193420161
hash_one = refl

hash_two : key_hash (codes "two") ≡ 193421353
hash_two = refl

-- two keys of one hash
hash_bc : key_hash (codes "bc") ≡ 5861060
hash_bc = refl

hash_cB : key_hash (codes "cB") ≡ 5861060
hash_cB = refl

-- the empty database: every table begins after the head, and has no slot
empty_is : file_bytes 4 [] ≡ repeat 256 (words_of 4 2048 0)
unfolding file_bytes file_tables table_slots filled_slots slots_with table_entries entries_from file_pointers pointers_from record_bytes words_of repeat
empty_is = refl

-- one record of an empty key and an empty value, in table 5
nothing_records : List KeyValue
nothing_records = record { key = []; value = [] } ∷ []

nothing_is : file_bytes 4 nothing_records ≡
    repeat 5 (words_of 4 2056 0) ++ words_of 4 2056 2 ++ repeat 250 (words_of 4 2072 0)
    ++ words_of 4 0 0
    ++ words_of 4 0 0 ++ words_of 4 5381 2048
unfolding file_bytes file_tables table_slots filled_slots slots_with table_entries entries_from file_pointers pointers_from record_bytes words_of repeat nothing_records
nothing_is = refl

-- four values of one key: their search begins at slot 5 of 8, and the last one goes round to slot 0
four_records : List KeyValue
four_records =
    record { key = codes "a"; value = codes "1" }
    ∷ record { key = codes "a"; value = codes "2" }
    ∷ record { key = codes "a"; value = codes "3" }
    ∷ record { key = codes "a"; value = codes "4" } ∷ []

slot_a : ℕ → WordPair
slot_a place = record { first = 177604; second = place }

slot_none : WordPair
slot_none = record { first = 0; second = 0 }

four_table : table_slots 4 four_records 196
    ≡ slot_a 2078 ∷ slot_none ∷ slot_none ∷ slot_none ∷ slot_none
    ∷ slot_a 2048 ∷ slot_a 2058 ∷ slot_a 2068 ∷ []
unfolding table_slots filled_slots slots_with table_entries entries_from four_records slot_a slot_none
four_table = refl

four_length : length (file_bytes 4 four_records) ≡ 2152
unfolding file_bytes file_tables table_slots filled_slots slots_with table_entries entries_from file_pointers pointers_from record_bytes four_records
four_length = refl

-- words of 8 bytes: the empty database, and one record in table 129
wide_empty_is : file_bytes 8 [] ≡ repeat 256 (words_of 8 4096 0)
unfolding file_bytes file_tables table_slots filled_slots slots_with table_entries entries_from file_pointers pointers_from record_bytes words_of repeat
wide_empty_is = refl

wide_one_is : wide_file ≡
    repeat 129 (words_of 8 4120 0) ++ words_of 8 4120 2 ++ repeat 126 (words_of 8 4152 0)
    ++ words_of 8 3 5 ++ codes "oneHello"
    ++ replicate 16 0
    ++ (0x81 ∷ 0x5b ∷ 0x87 ∷ 0x0b ∷ 0 ∷ 0 ∷ 0 ∷ 0 ∷ 0 ∷ 0x10 ∷ 0 ∷ 0 ∷ 0 ∷ 0 ∷ 0 ∷ 0 ∷ [])
unfolding file_bytes file_tables table_slots filled_slots slots_with table_entries entries_from file_pointers pointers_from record_bytes words_of repeat wide_records wide_file
wide_one_is = refl
