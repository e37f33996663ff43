-- The file format: where each part is, what bytes read as, and which records a file holds.
use Rattle.std.specs.Prelude.{ℕ, ◌*◌, ◌/◌, ◌%◌, ◌^◌, List, fold, bit_xor, ◌++◌, drop, map, ◌+◌, ◌<◌, length, sum_by, ◌==◌, Bool, not, [], ◌∷◌, take, filter, replicate, Option, Some, None, zero, suc, ◌-◌, nat_lt, nat_le, min, if◌then◌else◌, ◌&&◌, unwrap_or, flat_map}
use Rattle.byteorder.specs.Endian.{little_bytes, little_number}
use Rattle.std.specs.List.{range_with_len, slice_index, prefix_len, slice_set, reduce, position_or_len}
use Rattle.cdb_form.specs.declared.damage.Damage.{Damage}
use Rattle.cdb_form.specs.declared.damage.Damage.TheVariants.{Short, Table, Record}

-- ---- The hash of a key, its table, and its slot there.

-- the hash h, and then one more byte: the rest of 33 times h in 32 bits, exclusive or the byte
abbrev pub hash_step : ℕ → ℕ → ℕ
hash_step h byte = bit_xor ((33 * h) % 2 ^ 32) byte

-- the hash of a key: from 5381, byte after byte
abbrev pub key_hash : List ℕ → ℕ
key_hash key = fold hash_step 5381 key

-- the number of the table of a hash
abbrev pub table_number : ℕ → ℕ
table_number h = h % 256

-- the slot at which the search for a hash begins
abbrev pub home_slot : ℕ → ℕ → ℕ
home_slot h slots = (h / 256) % slots

-- ---- Two words of w bytes side by side, of which headers, slots and pointers are made.

-- a place and a count, a hash and a place, or two lengths
pub record WordPair : Type 0 where
  pub first : ℕ
  pub second : ℕ

-- the number of bytes it has
abbrev pub pair_size : ℕ → ℕ
pair_size w = 2 * w

-- its bytes
abbrev pub pair_bytes : ℕ → WordPair → List ℕ
pair_bytes w p = little_bytes w p.first ++ little_bytes w p.second

-- the number of bytes that the 256 pairs of the head have, and so the place of the first record
abbrev pub head_size : ℕ → ℕ
head_size w = 512 * w

-- ---- What bytes read as, in words of w bytes.

-- the two words at the start of some bytes
abbrev pub pair_at : ℕ → List ℕ → WordPair
pair_at w bytes = record { first = little_number w bytes; second = little_number w (drop w bytes) }

-- the n-th pair of words
abbrev pub nth_pair : ℕ → List ℕ → ℕ → WordPair
nth_pair w bytes n = pair_at w (drop (pair_size w * n) bytes)

-- the pointers of a head
unfoldable pub head_at : ℕ → List ℕ → List WordPair
head_at w bytes = map (nth_pair w bytes) (range_with_len 0 256)

-- ---- Records and where they begin, in words of w bytes.

-- a list of bytes: none is above 255
abbrev pub AreBytes : List ℕ → Type 0
AreBytes bytes = (k : ℕ) → slice_index bytes k < 256

-- a key with its value: a record, if both are bytes
pub record KeyValue : Type 0 where
  pub key : List ℕ
  pub value : List ℕ

-- the record of a key and a value
abbrev pub record_of : List ℕ → List ℕ → KeyValue
record_of key value = record { key = key; value = value }

pub record IsRecord (r : KeyValue) : Type 0 where
  pub key : AreBytes r.key
  pub value : AreBytes r.value

-- a record as bytes: its header, its key and its value
unfoldable pub record_bytes : ℕ → KeyValue → List ℕ
record_bytes w r = pair_bytes w (record { first = length r.key; second = length r.value }) ++ r.key
    ++ r.value

-- their number
abbrev pub record_size : ℕ → KeyValue → ℕ
record_size w r = pair_size w + length r.key + length r.value

-- the place after the last record
abbrev pub records_end : ℕ → List KeyValue → ℕ
records_end w rs = head_size w + sum_by (record_size w) rs

-- ---- The tables of a list of records, in words of w bytes.

-- the hash and the place of each record, in order, if the first begins at `at`
unfoldable pub entries_from : ℕ → ℕ → List KeyValue → List WordPair
entries_from w at [] = []
entries_from w at (r ∷ rs) =
    record { first = key_hash r.key; second = at } ∷ entries_from w (at + record_size w r) rs

abbrev pub file_entries : ℕ → List KeyValue → List WordPair
file_entries w rs = entries_from w (head_size w) rs

-- the entries of table n: those whose hash has this table
abbrev pub in_table : ℕ → WordPair → Bool
in_table n e = table_number e.first == n

unfoldable pub table_entries : ℕ → List KeyValue → ℕ → List WordPair
table_entries w rs n = filter (in_table n) (file_entries w rs)

-- an empty slot, and whether a slot holds an entry
abbrev pub empty_slot : WordPair
empty_slot = record { first = 0; second = 0 }

abbrev pub is_used : WordPair → Bool
is_used s = not (s.second == 0)

-- the slots in the order of a search, the one at home first
abbrev pub slots_from : ℕ → List WordPair → List WordPair
slots_from home slots = drop home slots ++ take home slots

-- the slots with one more entry, in the first empty one from its home
unfoldable pub slots_with : List WordPair → WordPair → List WordPair
slots_with slots e =
    let home = home_slot e.first (length slots) in
    slice_set slots ((home + prefix_len is_used (slots_from home slots)) % length slots) e

-- so many slots that entries fill, in their order
unfoldable pub filled_slots : ℕ → List WordPair → List WordPair
filled_slots slots es = fold slots_with (replicate slots empty_slot) es

-- the slots of a table with these entries: twice as many as they are
abbrev pub slots_of : List WordPair → List WordPair
slots_of es = filled_slots (2 * length es) es

-- the slots of table n
unfoldable pub table_slots : ℕ → List KeyValue → ℕ → List WordPair
table_slots w rs n = slots_of (table_entries w rs n)

unfoldable pub file_tables : ℕ → List KeyValue → List (List WordPair)
file_tables w rs = map (table_slots w rs) (range_with_len 0 256)

-- ---- The records of a file, one after the other, in words of w bytes.

-- true if a pointer's table has slots
abbrev pub has_slots : WordPair → Bool
has_slots p = not (p.second == 0)

-- the least place of a table that has slots, or `none` if no table has slots
abbrev pub least_place : ℕ → List WordPair → ℕ
least_place none ps = unwrap_or (reduce min (map (λ p. p.first) (filter has_slots ps))) none

-- where the records of a file end
unfoldable pub record_end : ℕ → List ℕ → ℕ
record_end w bytes = least_place (head_size w) (head_at w bytes)

-- the number of the first table that has slots and begins at a place
abbrev pub first_table_at : ℕ → List WordPair → ℕ
first_table_at place ps = position_or_len (λ p. has_slots p && (p.first == place)) ps

-- the number of bytes that the record at the start of some bytes takes, by the lengths in its header
abbrev pub prefix_size : ℕ → List ℕ → ℕ
prefix_size w bytes = 2 * w + (pair_at w bytes).first + (pair_at w bytes).second

-- and the record itself
abbrev pub prefix_record : ℕ → List ℕ → KeyValue
prefix_record w bytes =
    let p = pair_at w bytes in
    record {
      key = take p.first (drop (2 * w) bytes);
      value = take p.second (drop (2 * w + p.first) bytes);
    }

-- the whole records at the start of some bytes, at most `most` of them
unfoldable pub whole_records : ℕ → ℕ → List ℕ → List KeyValue
whole_records w zero bytes = []
whole_records w (suc most) bytes =
    if nat_le (prefix_size w bytes) (length bytes)
    then prefix_record w bytes ∷ whole_records w most (drop (prefix_size w bytes) bytes) else []

-- the records of a walk, and then a damage or none
pub record Walked : Type 0 where
  pub records : List KeyValue
  pub damage : Option Damage

-- the walk from a place on, if the records end at `end` and these bytes are the rest of the file
unfoldable pub walk_from : ℕ → ℕ → ℕ → List ℕ → Walked
walk_from w place end bytes =
    let area = take (end - place) bytes in
    let rs = whole_records w (length area) area in
    let stop = place + sum_by (record_size w) rs in
    record { records = rs; damage = if stop == end then None else Some (Record stop) }

-- no record, and a damage
abbrev pub damaged : Damage → Walked
damaged damage = record { records = []; damage = Some damage }

-- no record and no damage
abbrev pub no_walk : Walked
no_walk = record { records = []; damage = None }

-- a record, and then a walk
abbrev pub with_first : KeyValue → Walked → Walked
with_first r walk = record { records = r ∷ walk.records; damage = walk.damage }

-- some records, and then a walk
abbrev pub with_records : List KeyValue → Walked → Walked
with_records rs walk = record { records = rs ++ walk.records; damage = walk.damage }

-- the walk of a file
unfoldable pub walk_of : ℕ → List ℕ → Walked
walk_of w bytes =
    if nat_lt (length bytes) (head_size w) then damaged Short
    else if nat_lt (record_end w bytes) (head_size w)
    then damaged (Table (first_table_at (record_end w bytes) (head_at w bytes)))
    else walk_from w (head_size w) (record_end w bytes) (drop (head_size w) bytes)

-- ---- The file of a list of records, in words of w bytes.

-- the number of bytes that a record takes in all: its own, and those of two slots
abbrev pub whole_size : ℕ → KeyValue → ℕ
whole_size w r = record_size w r + 4 * w

-- the size of the finished file
abbrev pub file_size : ℕ → List KeyValue → ℕ
file_size w rs = head_size w + sum_by (whole_size w) rs

-- the place and the number of slots of each table, if the first begins at `at`
unfoldable pub pointers_from : ℕ → ℕ → List (List WordPair) → List WordPair
pointers_from w at [] = []
pointers_from w at (t ∷ ts) =
    record { first = at; second = length t } ∷ pointers_from w (at + pair_size w * length t) ts

unfoldable pub file_pointers : ℕ → List KeyValue → List WordPair
file_pointers w rs = pointers_from w (records_end w rs) (file_tables w rs)

-- the whole file: the head, the records, the tables
unfoldable pub file_bytes : ℕ → List KeyValue → List ℕ
file_bytes w rs =
    flat_map (pair_bytes w) (file_pointers w rs)
    ++ flat_map (record_bytes w) rs
    ++ flat_map (flat_map (pair_bytes w)) (file_tables w rs)
