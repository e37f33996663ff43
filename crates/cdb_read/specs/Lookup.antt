-- What a look-up of a key finds in any bytes, in words of w bytes.
use Rattle.std.specs.Prelude.{ℕ, ◌+◌, ◌*◌, ◌==◌, ◌&&◌, Bool, not, nat_le, if◌then◌else◌, List, [], ◌∷◌, ◌++◌, length, take, drop, map, filter, take_while, find, bytes_eq, Option, Some, None, option_map, zero, suc, ◌/◌, ◌%◌}
use Rattle.std.specs.List.{range_with_len}
use Rattle.cdb_form.specs.Format.{key_hash, table_number, home_slot, WordPair, pair_size, head_size, pair_at, nth_pair, is_used, slots_from, prefix_size, prefix_record, has_slots, KeyValue}
use Rattle.cdb_form.specs.declared.damage.Damage.{Damage}
use Rattle.cdb_form.specs.declared.damage.Damage.TheVariants.{Table, Record}
use Rattle.cdb_read.specs.declared.span.Span.{Span}

-- the bytes of a span
abbrev pub bytes_of : List ℕ → Span → List ℕ
bytes_of bytes s = take s.len (drop s.place bytes)

-- true if the record at a place lies after the head and inside the file
abbrev pub is_whole : ℕ → List ℕ → ℕ → Bool
is_whole w bytes place =
    nat_le (head_size w) place && nat_le (place + prefix_size w (drop place bytes)) (length bytes)

-- true if it has a key
abbrev pub has_key : ℕ → List ℕ → List ℕ → ℕ → Bool
has_key w bytes key place = bytes_eq (prefix_record w (drop place bytes)).key key

-- where its value lies
abbrev pub value_span : ℕ → List ℕ → ℕ → Span
value_span w bytes place =
    let lengths = pair_at w (drop place bytes) in
    record { place = place + pair_size w + lengths.first; len = lengths.second }

-- true if a pointer's table lies after the head and inside the file, and its slots
abbrev pub is_inside : ℕ → List ℕ → WordPair → Bool
is_inside w bytes p =
    nat_le (head_size w) p.first && nat_le (p.first + pair_size w * p.second) (length bytes)

abbrev pub slots_at : ℕ → List ℕ → WordPair → List WordPair
slots_at w bytes p = map (nth_pair w (drop p.first bytes)) (range_with_len 0 p.second)

-- the slots with a hash that its search meets, which ends at the first empty one
abbrev pub has_hash : ℕ → WordPair → Bool
has_hash h s = s.first == h

unfoldable pub met_slots : ℕ → List WordPair → List WordPair
met_slots h slots =
    filter (has_hash h) (take_while is_used (slots_from (home_slot h (length slots)) slots))

-- what a look-up gives: where values lie, and then a damage or none
pub record Found : Type 0 where
  pub spans : List Span
  pub damage : Option Damage

-- nothing; no value, and a damage; and some values, and then what else is found
abbrev pub nothing_found : Found
nothing_found = record { spans = []; damage = None }

abbrev pub found_damaged : Damage → Found
found_damaged damage = record { spans = []; damage = Some damage }

abbrev pub with_span : Span → Found → Found
with_span s f = record { spans = s ∷ f.spans; damage = f.damage }

abbrev pub with_spans : List Span → Found → Found
with_spans spans f = record { spans = spans ++ f.spans; damage = f.damage }

-- the values of a key at some places, up to the first place that has no whole record
unfoldable pub found_at : ℕ → List ℕ → List ℕ → List ℕ → Found
found_at w bytes key places =
    let whole = take_while (is_whole w bytes) places in
    let other = find (λ place. not (is_whole w bytes place)) places in
    record {
      spans = map (value_span w bytes) (filter (has_key w bytes key) whole);
      damage = option_map (λ place. Record place) other;
    }

-- the look-up of a key in the table of a pointer, and in a file
abbrev pub found_by : ℕ → List ℕ → List ℕ → WordPair → Found
found_by w bytes key p =
    let h = key_hash key in
    if not (has_slots p) then nothing_found
    else if is_inside w bytes p
    then found_at w bytes key (map (λ s. s.second) (met_slots h (slots_at w bytes p)))
    else found_damaged (Table (table_number h))

unfoldable pub lookup_of : ℕ → List ℕ → List ℕ → Found
lookup_of w bytes key = found_by w bytes key (nth_pair w bytes (table_number (key_hash key)))

-- ---- The search of a key as the author of the format describes it, by which other readers go, in words of w bytes.

-- a slot of a table: a hash, and the place of a record or 0
abbrev pub slot_at : ℕ → List ℕ → (table : WordPair) → (slot : ℕ) → WordPair
slot_at w file table slot = pair_at w (drop (table.first + 2 * w * slot) file)

-- the record at a place has a key of this length and of these bytes
abbrev pub is_of_key : ℕ → List ℕ → (key : List ℕ) → (place : ℕ) → Bool
is_of_key w file key place =
    ((pair_at w (drop place file)).first == length key)
    && bytes_eq (take (length key) (drop (place + 2 * w) file)) key

-- its value
abbrev pub value_at : ℕ → List ℕ → (place : ℕ) → List ℕ
value_at w file place =
    let lengths = pair_at w (drop place file) in
    take lengths.second (drop (place + 2 * w + lengths.first) file)

-- The values that are met from a slot on. After the last slot comes the first. An empty slot ends the search, and so
-- does the end of the slots that are left.
unfoldable pub values_from : ℕ → List ℕ → (key : List ℕ) → (table : WordPair) → (left slot : ℕ) → List (List ℕ)
values_from w file key table zero slot = []
values_from w file key table (suc left) slot =
    let it = slot_at w file table slot in
    let more = values_from w file key table left ((slot + 1) % table.second) in
    if it.second == 0 then []
    else if (it.first == key_hash key) && is_of_key w file key it.second
    then value_at w file it.second ∷ more else more

-- The hash modulo 256 is the number of the table, and the rest of the hash, modulo the number of slots, where the
-- search begins.
unfoldable pub search_of : ℕ → List ℕ → (key : List ℕ) → List (List ℕ)
search_of w file key =
    let h = key_hash key in
    let table = nth_pair w file (h % 256) in
    values_from w file key table table.second ((h / 256) % table.second)

-- ---- The values of a key in a list of records.

-- in the order of the records
abbrev pub values_of : List ℕ → List KeyValue → List (List ℕ)
values_of key rs = map (λ r. r.value) (filter (λ r. bytes_eq r.key key) rs)
