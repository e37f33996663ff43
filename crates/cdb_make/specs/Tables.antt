-- The entries of a roll, by the tables of their hashes.
use Rattle.std.specs.Prelude.{ℕ, ◌+◌, ◌*◌, ◌<◌, ◌≤◌, List, [], ◌∷◌, map, filter, get_or, min, vec_capacity, ◌≡◌, ◌-◌, ◌%◌, nat_le, Bool, length, take, ◌⊎◌, ◌++◌, flat_map}
use Rattle.std.specs.List.{range_with_len}
use Rattle.cdb_form.specs.Format.{WordPair, in_table, table_number, head_size}
use Rattle.cdb_form.specs.declared.width.Width.{Ghosts as Widths}
use Rattle.cdb_make.specs.Views.Places.{places_in, places_room}
use Rattle.cdb_make.specs.declared.finish.gathered.Gathered.{Gathered}
use Rattle.cdb_make.specs.declared.roll.Roll.{Roll}
use Rattle.cdb_store.specs.Images.{part}
use Rattle.cdb_make.specs.Spans.{head_bytes, table_bytes}

-- hashes and places side by side
abbrev pub entries_of : List ℕ → List ℕ → List WordPair
entries_of [] places = []
entries_of (h ∷ hashes) [] = []
entries_of (h ∷ hashes) (p ∷ places) =
    record { first = h; second = p } ∷ entries_of hashes places

-- those of a table, and of so many tables from one on
abbrev pub entries_in : List WordPair → ℕ → List WordPair
entries_in es n = filter (in_table n) es

unfoldable pub tables_of : List WordPair → ℕ → ℕ → List (List WordPair)
tables_of es first count = map (entries_in es) (range_with_len first count)

-- the entries of a roll, and those of each table
abbrev pub roll_entries : {L : Type 0} {l : Widths L} → Roll L l → List WordPair
roll_entries m = entries_of m.hashes.items (places_in m.places)

abbrev pub roll_tables : {L : Type 0} {l : Widths L} → Roll L l → List (List WordPair)
roll_tables m = tables_of (roll_entries m) 0 256

-- the entries that were gathered of a table, and of each of some
abbrev pub gathered_in : {L : Type 0} {l : Widths L} → Gathered L l → List WordPair
gathered_in g = entries_of g.hashes.items (places_in g.places)

abbrev pub all_gathered : {L : Type 0} {l : Widths L} → List (Gathered L l) → List (List WordPair)
all_gathered gs = map gathered_in gs

-- how many there is room for in one, and in each
abbrev pub gathered_room : {L : Type 0} {l : Widths L} → Gathered L l → ℕ
gathered_room g = min (vec_capacity g.hashes) (places_room g.places)

abbrev pub rooms_of : {L : Type 0} {l : Widths L} → List (Gathered L l) → List ℕ
rooms_of gs = map gathered_room gs

-- each has room for the entries of every 32nd table from its own on, of which there are so many
pub record HaveRoom {L : Type 0} {l : Widths L} (counts : List ℕ) (gs : List (Gathered L l)) : Type 0 where
  pub each : (group k : ℕ) → group < 8 → k < 32
      → get_or counts (32 * group + k) 0 ≤ get_or (rooms_of gs) k 0

-- ---- Entries that are gathered by their tables, from the first of a roll on.

-- true if a hash belongs to a table or to so many more after it; table 0 follows table 255
abbrev pub is_among : ℕ → ℕ → ℕ → Bool
is_among first more h = nat_le ((table_number h + (256 - first)) % 256) more

-- of the first n entries of a roll those of the tables from `first` on are gathered
abbrev pub AreGathered : {L : Type 0} {l : Widths L} → Roll L l → ℕ → ℕ → List (Gathered L l) → Type 0
AreGathered m first n gs = all_gathered gs ≡ tables_of (take n (roll_entries m)) first (length gs)

-- there is room for all entries of those tables
abbrev pub HaveRoomFor : {L : Type 0} {l : Widths L} → Roll L l → ℕ → List (Gathered L l) → Type 0
HaveRoomFor m first gs = (k : ℕ) → k < length gs
    → length (get_or (tables_of (roll_entries m) first (length gs)) k []) ≤ get_or (rooms_of gs) k 0

-- ---- A store that holds a whole file.

-- in each image the head is that of an old one, or all tables are stored
pub record HeadIsLast (w end : ℕ) (lists : List (List WordPair)) (old new : List ℕ → Type 0)
    : Type 0 where
  pub each : (b : List ℕ) → new b
      → ((a : List ℕ) × old a × (part 0 (head_size w) b ≡ part 0 (head_size w) a))
      ⊎ (part end (length (flat_map (table_bytes w) lists)) b ≡ flat_map (table_bytes w) lists)

-- each image is an old one up to `end`, and then some bytes
pub record EndsWith (end : ℕ) (bytes : List ℕ) (old new : List ℕ → Type 0) : Type 0 where
  pub each : (b : List ℕ) → new b → (a : List ℕ) × old a × (b ≡ take end a ++ bytes)

-- each image is the head, the records' bytes of an old one, and the tables of some lists of entries
pub record IsFinished (w end : ℕ) (lists : List (List WordPair)) (old new : List ℕ → Type 0)
    : Type 0 where
  pub each : (b : List ℕ) → new b → (a : List ℕ) × old a
      × (b ≡ head_bytes w end lists
      ++ part (head_size w) (end - head_size w) a
      ++ flat_map (table_bytes w) lists)
