-- The statistics of a file, in words of w bytes.
use Rattle.std.specs.Prelude.{ℕ, ◌/◌, ◌==◌, ◌&&◌, Bool, not, if◌then◌else◌, min, max, List, length, drop, map, filter, flat_map, sum, count_by, position, Option, option_map, unwrap_or}
use Rattle.std.specs.List.{reduce, range_with_len}
use Rattle.std.specs.Option.{option_or}
use Rattle.cdb_form.specs.Format.{home_slot, WordPair, nth_pair, head_at, KeyValue, is_used, walk_of, has_slots}
use Rattle.cdb_form.specs.declared.damage.Damage.{Damage}
use Rattle.cdb_form.specs.declared.damage.Damage.TheVariants.{Table}
use Rattle.cdb_read.specs.Lookup.{is_inside}
use Rattle.cdb_read.specs.Sound.{distance}
use Rattle.cdb_read.specs.declared.statistics.stats.Stats.{Stats}

-- a count that stops at the greatest number of 64 bits
abbrev pub capped : ℕ → ℕ
capped n = min n 18446744073709551615

-- the least, the average and the greatest of some numbers, each 0 if there is no number
abbrev pub least_of : List ℕ → ℕ
least_of ns = unwrap_or (reduce min ns) 0

abbrev pub average_of : List ℕ → ℕ
average_of ns = if length ns == 0 then 0 else sum ns / length ns

abbrev pub greatest_of : List ℕ → ℕ
greatest_of ns = unwrap_or (reduce max ns) 0

-- slot i of a table, and how far each of its used slots is after the home of its hash
abbrev pub slot_of : ℕ → List ℕ → WordPair → ℕ → WordPair
slot_of w bytes p i = nth_pair w (drop p.first bytes) i

unfoldable pub distances_in : ℕ → List ℕ → WordPair → List ℕ
distances_in w bytes p =
    let used = filter (λ i. is_used (slot_of w bytes p i)) (range_with_len 0 p.second) in
    map (λ i. distance (home_slot (slot_of w bytes p i).first p.second) p.second i) used

-- and each used slot of some tables
abbrev pub distances_of : ℕ → List ℕ → List WordPair → List ℕ
distances_of w bytes ps = flat_map (distances_in w bytes) ps

-- how many of them aren't 0; and how many are 0, 1, and so on to 9, and then 10 or more
abbrev pub collisions_of : List ℕ → ℕ
collisions_of ds = capped (count_by (λ d. not (d == 0)) ds)

abbrev pub distance_counts : List ℕ → List ℕ
distance_counts ds = map (λ k. capped (count_by (λ d. min d 10 == k) ds)) (range_with_len 0 11)

-- the lengths of keys and of values, and the numbers of slots of the tables that have some
abbrev pub key_lengths : List KeyValue → List ℕ
key_lengths rs = map (λ r. length r.key) rs

abbrev pub value_lengths : List KeyValue → List ℕ
value_lengths rs = map (λ r. length r.value) rs

abbrev pub table_sizes : List WordPair → List ℕ
table_sizes ps = map (λ p. p.second) (filter has_slots ps)

-- what such lists come to
abbrev pub stats_of : (keys values sizes distances : List ℕ) → Stats
stats_of keys values sizes distances =
    record {
      records = length keys;
      key_least = least_of keys;
      key_average = average_of keys;
      key_greatest = greatest_of keys;
      value_least = least_of values;
      value_average = average_of values;
      value_greatest = greatest_of values;
      tables = length sizes;
      entries = capped (length distances);
      collisions = collisions_of distances;
      size_least = least_of sizes;
      size_average = average_of sizes;
      size_greatest = greatest_of sizes;
      distances = distance_counts distances;
    }

-- the statistics of a file
unfoldable pub statistics_of : ℕ → List ℕ → Stats
statistics_of w bytes =
    let rs = (walk_of w bytes).records in
    stats_of (key_lengths rs) (value_lengths rs) (table_sizes (head_at w bytes))
    (distances_of w bytes (head_at w bytes))

-- a table has slots, and doesn't lie after the head and inside the file; the number of the first one
abbrev pub is_outside : ℕ → List ℕ → WordPair → Bool
is_outside w bytes p = has_slots p && not (is_inside w bytes p)

abbrev pub outside_table : ℕ → List ℕ → Option ℕ
outside_table w bytes = position (is_outside w bytes) (head_at w bytes)

-- why a file has no statistics: the first table outside of it, or else the damage of its walk
unfoldable pub statistics_damage : ℕ → List ℕ → Option Damage
statistics_damage w bytes =
    option_or (option_map (λ n. Table n) (outside_table w bytes)) (walk_of w bytes).damage
