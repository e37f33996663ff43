-- The walks of worked, damaged and foreign files.
use Rattle.std.specs.Prelude.{ℕ, ◌≡◌, List, [], ◌∷◌, ◌++◌, map, Option, Some, None, refl, take, replicate, codes}
use Rattle.cdb_form.specs.Format.{file_bytes, file_pointers, pointers_from, head_at, KeyValue, record_bytes, file_tables, table_slots, filled_slots, slots_with, table_entries, entries_from, Walked, walk_of, walk_from, whole_records, record_end}
use Rattle.cdb_form.specs.Examples.Files.{words_of, repeat, put_at, two_records, two_file, foreign_file, wide_records, wide_file}
use Rattle.cdb_form.specs.declared.damage.Damage.{Damage}
use Rattle.cdb_form.specs.declared.damage.Damage.TheVariants.{Short, Table, Record}

walked : List KeyValue → Option Damage → Walked
walked records damage = record { records = records; damage = damage }

-- files in words of 4 bytes, each with its walk
unfoldable narrow_walks : List (List ℕ × Walked)
narrow_walks =
    -- two records
    (two_file, walked two_records None) ∷
    -- no record: every pointer gives the end of the head
    (file_bytes 4 [], walked [] None) ∷
    -- 2048 zero bytes
    (replicate 2048 0, walked [] None) ∷
    -- cut within the head
    (take 2047 two_file, walked [] (Some Short)) ∷
    -- nothing after the head
    (take 2048 two_file, walked [] (Some (Record 2048))) ∷
    -- cut within the second record
    (take 2070 two_file, walked (take 1 two_records) (Some (Record 2064))) ∷
    -- cut between the two records
    (take 2064 two_file, walked (take 1 two_records) (Some (Record 2064))) ∷
    -- all tables cut away
    (take 2082 two_file, walked two_records None) ∷
    -- a table after the end of the file
    (put_at 56 (words_of 4 2114 1) two_file, walked two_records None) ∷
    -- a pointer of all ones
    (put_at 1032 (words_of 4 4294967295 4294967295) two_file, walked two_records None) ∷
    -- a slot without a record's place
    (put_at 2086 (17 ∷ []) two_file, walked two_records None) ∷
    -- a value that reaches past the record end
    (put_at 2068 (8 ∷ []) two_file, walked (take 1 two_records) (Some (Record 2064))) ∷
    -- a key of the greatest length
    (put_at 2048 (255 ∷ 255 ∷ 255 ∷ 255 ∷ []) two_file, walked [] (Some (Record 2048))) ∷
    -- a table within the head
    (put_at 0 (words_of 4 100 1) two_file, walked [] (Some (Table 0))) ∷
    -- the first of two tables there
    (put_at 24 (words_of 4 100 1 ++ words_of 4 100 1) two_file, walked [] (Some (Table 3))) ∷
    -- a table there that has no slots
    (put_at 0 (words_of 4 100 0) two_file, walked two_records None) ∷
    -- five bytes after the tables
    (two_file ++ replicate 5 1, walked two_records None) ∷
    -- another program's file
    (foreign_file, walked (record { key = codes "a"; value = codes "1" } ∷ []) None)
    ∷ []

-- files in words of 8 bytes
unfoldable wide_walks : List (List ℕ × Walked)
wide_walks =
    -- words of 8 bytes
    (wide_file, walked wide_records None) ∷
    -- their head, cut one byte short
    (take 4095 wide_file, walked [] (Some Short))
    ∷ []

-- each file has its walk
walks_are : (map (λ e. walk_of 4 e.0) narrow_walks ≡ map (λ e. e.1) narrow_walks)
    × (map (λ e. walk_of 8 e.0) wide_walks ≡ map (λ e. e.1) wide_walks)
unfolding walk_of walk_from whole_records record_end head_at two_file two_records foreign_file wide_file wide_records put_at words_of repeat walked narrow_walks wide_walks file_bytes file_tables table_slots filled_slots slots_with table_entries entries_from file_pointers pointers_from record_bytes
walks_are = (refl, refl)
