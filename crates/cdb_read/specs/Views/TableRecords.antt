-- What a check keeps of the records of a walk, and which of them slots have pointed to.
use Rattle.std.specs.Prelude.{ℕ, ◌≡◌, ◌<◌, Bool, false, List, [], ◌∷◌, ◌++◌, map, length, All, slice_index}
use Rattle.std.specs.List.{list_any}
use Rattle.std.specs.List.Sorted.{IsStrictlyIncreasing}
use Rattle.cdb_form.specs.Format.{WordPair}
use Rattle.cdb_form.specs.declared.slot.Slot.{Slot}
use Rattle.cdb_read.specs.Sound.{has_place}
use Rattle.cdb_read.specs.declared.checking.table_records.TableRecords.{TableRecords}

-- places and hashes side by side
abbrev pub entries_of : List ℕ → List ℕ → List WordPair
entries_of [] hashes = []
entries_of (p ∷ places) [] = []
entries_of (p ∷ places) (h ∷ hashes) =
    record { first = h; second = p } ∷ entries_of places hashes

abbrev pub entry_pairs : TableRecords → List WordPair
entry_pairs e = entries_of e.places.items e.hashes.items

-- one record more, which is not marked
pub record HasMore (old new : TableRecords) (place hash : ℕ) : Type 0 where
  pub entries : entry_pairs new ≡ entry_pairs old ++ record { first = hash; second = place } ∷ []
  pub marks : new.marks.items ≡ old.marks.items ++ false ∷ []

-- record k has the place and the hash of a slot
pub record HasEntry (e : TableRecords) (slot : Slot) (k : ℕ) : Type 0 where
  pub within : k < length e.places.items
  pub place : slice_index e.places.items k ≡ slot.place
  pub hash : slice_index e.hashes.items k ≡ slot.hash

-- true if some of these slots has the place of an entry; and of each entry
abbrev pub is_told : List WordPair → WordPair → Bool
is_told slots e = list_any (has_place e) slots

unfoldable pub marks_of : List WordPair → List WordPair → List Bool
marks_of slots entries = map (is_told slots) entries

-- the records are these, in the order of their places, and marked if some slots point to them
pub record Marks (e : TableRecords) (entries slots : List WordPair) : Type 0 where
  pub are : entry_pairs e ≡ entries
  pub marked : e.marks.items ≡ marks_of slots entries
  pub rising : IsStrictlyIncreasing e.places.items
  pub positive : All (λ place. 0 < place) e.places.items
