-- The first faults of worked, damaged and foreign files.
use Rattle.std.specs.Prelude.{ℕ, ◌≡◌, List, [], ◌∷◌, ◌++◌, map, replicate, take, Option, Some, None, refl}
use Rattle.cdb_form.specs.Examples.Files.{words_of, repeat, put_at, two_file, foreign_file, wide_records, wide_file}
use Rattle.cdb_form.specs.Format.{file_bytes, file_pointers, pointers_from, head_at, KeyValue, record_bytes, file_tables, table_slots, filled_slots, slots_with, table_entries, entries_from, walk_of, walk_from, whole_records, record_end}
use Rattle.cdb_form.specs.declared.damage.Damage.{Damage}
use Rattle.cdb_form.specs.declared.damage.Damage.TheVariants.{Short, Table, Record, Slot, Twice, Unindexed}
use Rattle.cdb_read.specs.Examples.{four_records}
use Rattle.cdb_read.specs.Sound.{first_fault, first_of, slots_fault, all_slots}

-- a record of an empty key and an empty value
unfoldable empty_record : List KeyValue
empty_record = record { key = []; value = [] } ∷ []

-- files in words of 4 bytes, each with its first fault
unfoldable narrow_faults : List (List ℕ × Option Damage)
narrow_faults =
    -- two records
    (two_file, None) ∷
    -- four values of one key
    (file_bytes 4 four_records, None) ∷
    -- five bytes after the tables
    (two_file ++ replicate 5 1, None) ∷
    -- another program's file, whose table has no empty slot
    (foreign_file, None) ∷
    -- 2048 zero bytes
    (replicate 2048 0, None) ∷
    -- cut within the head
    (take 2047 two_file, Some Short) ∷
    -- a table after the end of the file, and one within the head
    (put_at 56 (words_of 4 2114 1) two_file, Some (Table 7)) ∷
    (put_at 0 (words_of 4 100 1) two_file, Some (Table 0)) ∷
    -- cut within the second record, so that no table is left
    (take 2070 two_file, Some (Table 41)) ∷
    -- a value that reaches past the record end
    (put_at 2068 (8 ∷ []) two_file, Some (Record 2064)) ∷
    -- a slot that has no record's place
    (put_at 2086 (17 ∷ []) two_file, Some (Slot 41 0)) ∷
    -- one whose hash is another
    (put_at 2083 (97 ∷ []) two_file, Some (Slot 41 0)) ∷
    -- a record's slot in the table of another, before its own
    (put_at 2090 (words_of 4 193420161 2048) two_file, Some (Slot 41 1)) ∷
    -- another record's slot, which is wrong there before it is the second of that record
    (put_at 2098 (words_of 4 193421353 2064) two_file, Some (Slot 129 0)) ∷
    -- a slot after an empty one
    (
      put_at 2056 (words_of 4 5381 2048 ++ words_of 4 0 0) (file_bytes 4 empty_record),
      Some (Slot 5 0),
    ) ∷
    -- two slots of one record
    (put_at 2092 (20 ∷ []) (file_bytes 4 four_records), Some (Twice 2068)) ∷
    -- a slot taken away
    (put_at 2106 (words_of 4 0 0) two_file, Some (Unindexed 2048))
    ∷ []

-- a record in words of 8 bytes, and its slot taken away
unfoldable wide_faults : List (List ℕ × Option Damage)
wide_faults =
    (wide_file, None) ∷
    (put_at 4136 (words_of 8 0 0) wide_file, Some (Unindexed 4096))
    ∷ []

-- each file has this one
faults_are : (map (λ e. first_fault 4 e.0) narrow_faults ≡ map (λ e. e.1) narrow_faults)
    × (map (λ e. first_fault 8 e.0) wide_faults ≡ map (λ e. e.1) wide_faults)
unfolding first_fault first_of slots_fault all_slots narrow_faults wide_faults empty_record four_records walk_of walk_from whole_records record_end head_at two_file foreign_file wide_file wide_records put_at words_of repeat file_bytes file_tables table_slots filled_slots slots_with table_entries entries_from file_pointers pointers_from record_bytes
faults_are = (refl, refl)
