-- The types of this crate as the pairs of words and the records of the format.
use Rattle.std.specs.Prelude.{ℕ, List, map, ◌≤◌, ◌/◌, length, ◌≡◌, ◌+◌, ◌<◌, true, get_or}
use Rattle.cdb_form.specs.Format.{WordPair, KeyValue, pair_size, nth_pair, is_used, empty_slot}
use Rattle.cdb_form.specs.Text.Parse.{Change, Putting, Removing}
use Rattle.cdb_form.specs.declared.head.Head.{Head}
use Rattle.cdb_form.specs.declared.head.Pointer.{Pointer}
use Rattle.cdb_form.specs.declared.header.Header.{Header}
use Rattle.cdb_form.specs.declared.item.Item.{Item}
use Rattle.cdb_form.specs.declared.item.Item.TheVariants.{Put, Remove}
use Rattle.cdb_form.specs.declared.item.ItemKind.{ItemKind}
use Rattle.cdb_form.specs.declared.item.ItemKind.TheVariants as kind
use Rattle.cdb_form.specs.declared.pair.TwoWords.{TwoWords}
use Rattle.cdb_form.specs.declared.record.Record.{Record}
use Rattle.cdb_form.specs.declared.slot.Slot.{Slot}
use Rattle.std.specs.List.{range_with_len}

-- a record without its place in memory
abbrev pub key_value : Record → KeyValue
key_value r = record { key = r.key.items; value = r.value.items }

abbrev pub key_values : List Record → List KeyValue
key_values rs = map key_value rs

-- an item without its place in memory
abbrev pub change_of : Item → Change
change_of (Put r) = Putting (key_value r)
change_of (Remove key) = Removing key.items

abbrev pub changes_of : List Item → List Change
changes_of items = map change_of items

-- the item that was read over a record, of this kind: a removal has its key
abbrev pub change_in : ItemKind → Record → Change
change_in kind.Put r = Putting (key_value r)
change_in kind.Remove r = Removing r.key.items

abbrev pub pair_of : TwoWords → WordPair
pair_of p = record { first = p.first; second = p.second }

abbrev pub header_pair : Header → WordPair
header_pair h = record { first = h.klen; second = h.vlen }

abbrev pub slot_pair : Slot → WordPair
slot_pair s = record { first = s.hash; second = s.place }

abbrev pub pointer_pair : Pointer → WordPair
pointer_pair p = record { first = p.place; second = p.slots }

abbrev pub head_pairs : Head → List WordPair
head_pairs h = map pointer_pair h.pointers

-- both words are at most `top`
pub record PairFits (top : ℕ) (p : WordPair) : Type 0 where
  pub first : p.first ≤ top
  pub second : p.second ≤ top

-- ---- The bytes of a table as its slots.

-- the slots that some bytes hold, one after the other, each two words of w bytes
unfoldable pub slots_in : ℕ → List ℕ → List WordPair
slots_in w bytes = map (nth_pair w bytes) (range_with_len 0 (length bytes / pair_size w))

-- ---- Which slots of a table are known to be used, as a search notes it.

-- so many slots, from this one on, are used
abbrev pub IsRun : ℕ → ℕ → List WordPair → Type 0
IsRun at len slots = (k : ℕ) → k < len → is_used (get_or slots (at + k) empty_slot) ≡ true

-- as many from each used slot on as is noted there; what is noted of an empty one says nothing
abbrev pub AreRuns : List ℕ → List WordPair → Type 0
AreRuns runs slots = (at : ℕ) → is_used (get_or slots at empty_slot) ≡ true → IsRun at (get_or runs at 0) slots
