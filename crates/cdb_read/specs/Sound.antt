-- When a file is sound, in words of w bytes: its tables and its walk have the same records.
use Rattle.std.specs.Prelude.{ℕ, ◌≡◌, ◌<◌, ◌+◌, ◌-◌, ◌%◌, ◌==◌, Bool, true, List, length, take, flat_map, get_or, None, All, ◌&&◌, not, nat_lt, if◌then◌else◌, [], ◌∷◌, ◌++◌, Option, Some, reverse}
use Rattle.std.specs.List.{Contains, count_by, list_all, range_with_len, list_any, prefix_len}
use Rattle.cdb_form.specs.Format.{table_number, home_slot, WordPair, nth_pair, empty_slot, file_entries, is_used, slots_from, has_slots, walk_of, head_size, head_at}
use Rattle.cdb_read.specs.Lookup.{is_inside, slots_at}
use Rattle.std.specs.Option.{option_or}
use Rattle.cdb_form.specs.declared.damage.Damage.{Damage}
use Rattle.cdb_form.specs.declared.damage.Damage.TheVariants.{Short, Table, Slot, Twice, Unindexed}

-- the slots of table n, those of the tables below it, and those of all tables
abbrev pub table_at : ℕ → List ℕ → ℕ → List WordPair
table_at w bytes n = slots_at w bytes (nth_pair w bytes n)

abbrev pub tables_below : ℕ → List ℕ → ℕ → List WordPair
tables_below w bytes n = flat_map (table_at w bytes) (range_with_len 0 n)

unfoldable pub all_slots : ℕ → List ℕ → List WordPair
all_slots w bytes = tables_below w bytes 256

-- the hash and the place of each record of the walk
abbrev pub walk_entries : ℕ → List ℕ → List WordPair
walk_entries w bytes = file_entries w (walk_of w bytes).records

-- slot i, and how far it is after a home, going round
abbrev pub nth_slot : List WordPair → ℕ → WordPair
nth_slot slots i = get_or slots i empty_slot

abbrev pub distance : ℕ → ℕ → ℕ → ℕ
distance home slots i = (i + (slots - home)) % slots

-- true if no empty slot lies on the way to slot i from the home of its hash
abbrev pub is_reached : List WordPair → ℕ → Bool
is_reached slots i =
    let home = home_slot (nth_slot slots i).first (length slots) in
    list_all is_used (take (distance home (length slots) i) (slots_from home slots))

-- slot i of table n is right: it has the hash and the place of a record, the table is that of the
-- hash, and a search comes to it
pub record IsRight (entries : List WordPair) (n : ℕ) (slots : List WordPair) (i : ℕ) : Type 0 where
  pub told : Contains entries (nth_slot slots i)
  pub in_table : table_number (nth_slot slots i).first ≡ n
  pub reached : is_reached slots i ≡ true

-- true if a slot has the place of an entry
abbrev pub has_place : WordPair → WordPair → Bool
has_place entry slot = slot.second == entry.second

-- a file is sound
pub record IsSound (w : ℕ) (bytes : List ℕ) : Type 0 where
  -- each table with slots lies after the head and inside the file
  pub inside : (n : ℕ) → n < 256 → has_slots (nth_pair w bytes n) ≡ true
      → is_inside w bytes (nth_pair w bytes n) ≡ true
  -- the walk has no damage
  pub walked : (walk_of w bytes).damage ≡ None
  -- each used slot is right
  pub slots : (n i : ℕ) → n < 256 → i < length (table_at w bytes n)
      → is_used (nth_slot (table_at w bytes n) i) ≡ true
      → IsRight (walk_entries w bytes) n (table_at w bytes n) i
  -- each record has exactly one slot
  pub once : All (λ e. count_by (has_place e) (all_slots w bytes) ≡ 1) (walk_entries w bytes)

-- ---- The first fault of a file, in the order in which faults are reported, in words of w bytes.

-- the first fault of some things, in their order
unfoldable pub first_of : {X : Type 0} → (X → Option Damage) → List X → Option Damage
first_of fault [] = None
first_of fault (x ∷ xs) = option_or (fault x) (first_of fault xs)

-- a fault if there is one
abbrev pub fault_if : Bool → Damage → Option Damage
fault_if is damage = if is then Some damage else None

-- table n has slots, and doesn't lie after the head and inside the file
abbrev pub table_fault : ℕ → List ℕ → ℕ → Option Damage
table_fault w bytes n =
    let p = nth_pair w bytes n in
    fault_if (has_slots p && not (is_inside w bytes p)) (Table n)

-- true if a slot has the hash and the place of an entry, and whether a slot of table n is right among such entries,
-- whether a search comes to it or not; and slot i
abbrev pub is_same : WordPair → WordPair → Bool
is_same slot entry = (entry.first == slot.first) && (entry.second == slot.second)

abbrev pub is_right_slot : List WordPair → ℕ → WordPair → Bool → Bool
is_right_slot entries n slot reached =
    list_any (is_same slot) entries && ((table_number slot.first == n) && reached)

abbrev pub is_right : List WordPair → ℕ → List WordPair → ℕ → Bool
is_right entries n slots i = is_right_slot entries n (nth_slot slots i) (is_reached slots i)

-- a used slot isn't right, or else one of the earlier slots has its place
abbrev pub used_fault : List WordPair → Bool → ℕ → ℕ → WordPair → Option Damage
used_fault earlier right n i slot = option_or (fault_if (not right) (Slot n i))
    (fault_if (list_any (has_place slot) earlier) (Twice slot.second))

-- the fault of slot i of table n, if these slots lie before the table
abbrev pub slot_fault : List WordPair → List WordPair → ℕ → List WordPair → ℕ → Option Damage
slot_fault entries before n slots i =
    let slot = nth_slot slots i in
    if is_used slot
    then used_fault (before ++ take i slots) (is_right entries n slots i) n i slot else None

-- the first fault of the slots of a table, which follow other slots
abbrev pub faults_behind : List WordPair → List WordPair → ℕ → List WordPair → Option Damage
faults_behind entries before n slots =
    first_of (slot_fault entries before n slots) (range_with_len 0 (length slots))

unfoldable pub slots_fault : ℕ → List ℕ → List WordPair → ℕ → Option Damage
slots_fault w bytes entries n =
    faults_behind entries (tables_below w bytes n) n (table_at w bytes n)

-- no slot has the place of an entry
abbrev pub lost_fault : List WordPair → WordPair → Option Damage
lost_fault slots e = fault_if (not (list_any (has_place e) slots)) (Unindexed e.second)

abbrev pub entry_fault : ℕ → List ℕ → WordPair → Option Damage
entry_fault w bytes e = lost_fault (all_slots w bytes) e

-- of a file: no whole head; then the tables, the walk, the slots, and the records of the walk
unfoldable pub first_fault : ℕ → List ℕ → Option Damage
first_fault w bytes =
    let entries = walk_entries w bytes in
    if nat_lt (length bytes) (head_size w) then Some Short else
    option_or (first_of (table_fault w bytes) (range_with_len 0 256))
    (option_or (walk_of w bytes).damage
    (option_or (first_of (slots_fault w bytes entries) (range_with_len 0 256))
    (first_of (entry_fault w bytes) entries)))

-- ---- Runs of used slots.

-- how many used slots in a row end some slots
unfoldable pub run_of : List WordPair → ℕ
run_of slots = prefix_len is_used (reverse slots)

-- ---- Files that may have words of the other width.

-- no table of a file has slots, though bytes follow its head
unfoldable pub lacks_tables : ℕ → List ℕ → Bool
lacks_tables w bytes = nat_lt (head_size w) (length bytes) && not (list_any has_slots (head_at w bytes))
