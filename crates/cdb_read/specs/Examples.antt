-- Look-ups in worked, damaged and foreign files.
use Rattle.std.specs.Prelude.{ℕ, ◌≡◌, List, [], ◌∷◌, map, take, codes, Option, Some, None, refl, ◌++◌}
use Rattle.cdb_form.specs.Examples.Files.{words_of, repeat, put_at, two_records, two_file, foreign_file}
use Rattle.cdb_form.specs.Format.{file_bytes, file_pointers, pointers_from, KeyValue, record_bytes, file_tables, table_slots, filled_slots, slots_with, table_entries, entries_from}
use Rattle.cdb_form.specs.declared.damage.Damage.{Damage}
use Rattle.cdb_form.specs.declared.damage.Damage.TheVariants.{Table, Record}
use Rattle.cdb_read.specs.Lookup.{Found, bytes_of, met_slots, found_at, lookup_of}
use Rattle.cdb_read.specs.declared.span.Span.{Span}
use Rattle.cdb_form.specs.Text.Parse.{Putting, Removing}
use Rattle.cdb_read.specs.Difference.{amended, difference, first_keys, values_eq}

span : ℕ → ℕ → Span
span place len = record { place = place; len = len }

found : List Span → Option Damage → Found
found spans damage = record { spans = spans; damage = damage }

-- four values of one key
unfoldable pub four_records : List KeyValue
four_records =
    record { key = codes "a"; value = codes "1" }
    ∷ record { key = codes "a"; value = codes "2" }
    ∷ record { key = codes "a"; value = codes "3" }
    ∷ record { key = codes "a"; value = codes "4" } ∷ []

-- two keys of one hash
unfoldable same_hash : List KeyValue
same_hash =
    record { key = codes "bc"; value = codes "1" }
    ∷ record { key = codes "cB"; value = codes "2" } ∷ []

-- files in words of 4 bytes, with a key and what its look-up finds
unfoldable narrow_lookups : List (List ℕ × List ℕ × Found)
narrow_lookups =
    -- two records of two keys
    (two_file, codes "one", found (span 2059 5 ∷ []) None) ∷
    (two_file, codes "two", found (span 2075 7 ∷ []) None) ∷
    -- a key of a table without slots
    (two_file, codes "a", found [] None) ∷
    -- all values of a key, in order: the search goes round from the last slot to the first
    (
      file_bytes 4 four_records,
      codes "a",
      found (span 2057 1 ∷ span 2067 1 ∷ span 2077 1 ∷ span 2087 1 ∷ []) None,
    ) ∷
    -- the same, but the third slot has no record's place
    (
      put_at 2148 (21 ∷ []) (file_bytes 4 four_records),
      codes "a",
      found (span 2057 1 ∷ span 2067 1 ∷ []) (Some (Record 2069)),
    ) ∷
    -- the same, but its table passes the end of the file
    (take 2150 (file_bytes 4 four_records), codes "a", found [] (Some (Table 196))) ∷
    -- a key that has the hash of another
    (file_bytes 4 same_hash, codes "cB", found (span 2069 1 ∷ []) None) ∷
    -- another program's file, whose table has no empty slot; `bc` has this table, but not the hash
    (foreign_file, codes "a", found (span 2057 1 ∷ []) None) ∷
    (foreign_file, codes "bc", found [] None) ∷
    -- a slot that has no record's place
    (put_at 2086 (17 ∷ []) two_file, codes "two", found [] (Some (Record 2065))) ∷
    -- and one that has a place within the head
    (put_at 2086 (255 ∷ 7 ∷ []) two_file, codes "two", found [] (Some (Record 2047))) ∷
    -- a table within the head
    (put_at 328 (words_of 4 2047 2) two_file, codes "two", found [] (Some (Table 41))) ∷
    -- a value that reaches into the tables
    (put_at 2068 (8 ∷ []) two_file, codes "two", found (span 2075 8 ∷ []) None)
    ∷ []

-- the two records in words of 8 bytes
unfoldable wide_lookups : List (List ℕ × List ℕ × Found)
wide_lookups =
    (file_bytes 8 two_records, codes "one", found (span 4115 5 ∷ []) None) ∷
    (file_bytes 8 two_records, codes "two", found (span 4139 7 ∷ []) None) ∷
    (file_bytes 8 two_records, codes "a", found [] None)
    ∷ []

-- each look-up finds this
lookups_are : (map (λ e. lookup_of 4 e.0 e.1) narrow_lookups ≡ map (λ e. e.2) narrow_lookups)
    × (map (λ e. lookup_of 8 e.0 e.1) wide_lookups ≡ map (λ e. e.2) wide_lookups)
unfolding lookup_of met_slots found_at narrow_lookups wide_lookups four_records same_hash span found two_file two_records foreign_file put_at words_of repeat file_bytes file_tables table_slots filled_slots slots_with table_entries entries_from file_pointers pointers_from record_bytes
lookups_are = (refl, refl)

-- the bytes of such spans
bytes_are : map (bytes_of two_file) (span 2059 5 ∷ span 2075 7 ∷ [])
    ≡ codes "Hello" ∷ codes "Goodbye" ∷ []
unfolding span two_file words_of repeat
bytes_are = refl

longer_is : bytes_of (put_at 2068 (8 ∷ []) two_file) (span 2075 8) ≡ codes "Goodbye)"
unfolding span put_at two_file words_of repeat
longer_is = refl

-- ---- What changed between worked lists of records.

pair : List ℕ → List ℕ → KeyValue
pair key value = record { key = key; value = value }

-- a has two values, of which the second becomes another, b goes, and c comes
unfoldable old_records : List KeyValue
old_records =
    pair (codes "a") (codes "1") ∷ pair (codes "b") (codes "2") ∷ pair (codes "a") (codes "3")
    ∷ pair (codes "d") [] ∷ []

unfoldable new_records : List KeyValue
new_records =
    pair (codes "c") (codes "4") ∷ pair (codes "a") (codes "1") ∷ pair (codes "d") []
    ∷ pair (codes "a") (codes "55") ∷ []

changes_are : difference old_records new_records
    ≡ Removing (codes "a") ∷ Removing (codes "b") ∷ Removing (codes "c") ∷ Putting (pair (codes "c") (codes "4"))
    ∷ Putting (pair (codes "a") (codes "1")) ∷ Putting (pair (codes "a") (codes "55")) ∷ []
unfolding difference first_keys values_eq pair old_records new_records
changes_are = refl

-- the records after them
amended_is : amended old_records (difference old_records new_records)
    ≡ pair (codes "d") [] ∷ pair (codes "c") (codes "4") ∷ pair (codes "a") (codes "1")
    ∷ pair (codes "a") (codes "55") ∷ []
unfolding difference first_keys values_eq pair old_records new_records
amended_is = refl

-- two values of a key in another order are others
unfoldable turned : List KeyValue
turned = pair (codes "a") (codes "2") ∷ pair (codes "a") (codes "1") ∷ []

unfoldable straight : List KeyValue
straight = pair (codes "a") (codes "1") ∷ pair (codes "a") (codes "2") ∷ []

order_is : difference straight turned
    ≡ Removing (codes "a") ∷ Putting (pair (codes "a") (codes "2"))
    ∷ Putting (pair (codes "a") (codes "1")) ∷ []
unfolding difference first_keys values_eq pair straight turned
order_is = refl

-- another order of the keys changes nothing if their values are the same
keys_are : difference (pair [] [] ∷ straight) (straight ++ pair [] [] ∷ []) ≡ []
unfolding difference first_keys values_eq pair straight
keys_are = refl
