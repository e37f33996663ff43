-- Laws of look-ups, of sound files and of differences.
use Rattle.std.specs.Prelude.{ℕ, ◌≡◌, ◌↔◌, List, [], map, None}
use Rattle.std.specs.List.Sorted.{IsPermutation}
use Rattle.cdb_form.specs.Format.{file_bytes, KeyValue, walk_of}
use Rattle.cdb_read.specs.Difference.{amended, difference}
use Rattle.cdb_read.specs.Sound.{first_fault, IsSound}
use Rattle.cdb_read.specs.Lookup.{bytes_of, lookup_of, search_of, values_of}

-- a look-up in the file of some records finds the values of the key, in order, and meets no damage
pub record FindsValues (w : ℕ) (rs : List KeyValue) (key : List ℕ) : Type 0 where
  pub values : map (bytes_of (file_bytes w rs)) (lookup_of w (file_bytes w rs) key).spans
      ≡ values_of key rs
  pub sound : (lookup_of w (file_bytes w rs) key).damage ≡ None

-- a look-up in a file finds the values that the key has in the walk, each as often as it occurs
-- there, and meets no damage
pub record FindsWalked (w : ℕ) (bytes key : List ℕ) : Type 0 where
  pub values : IsPermutation (values_of key (walk_of w bytes).records)
      (map (bytes_of bytes) (lookup_of w bytes key).spans)
  pub sound : (lookup_of w bytes key).damage ≡ None

-- a search as the author of the format describes it finds the values that a look-up gives, in their order
abbrev pub FindsSearched : ℕ → (bytes key : List ℕ) → Type 0
FindsSearched w bytes key = search_of w bytes key ≡ map (bytes_of bytes) (lookup_of w bytes key).spans

-- a file is sound exactly when it has no first fault
abbrev pub SoundIsNoDamage : ℕ → List ℕ → Type 0
SoundIsNoDamage w bytes = IsSound w bytes ↔ (first_fault w bytes ≡ None)

-- the records that are there after the difference of rs and ss was done to rs
abbrev pub brought_up : List KeyValue → List KeyValue → List KeyValue
brought_up rs ss = amended rs (difference rs ss)

-- a look-up in a file finds the values that the key has in some records, in order, and meets no
-- damage
pub record FindsAsIn (w : ℕ) (bytes key : List ℕ) (rs : List KeyValue) : Type 0 where
  pub values : map (bytes_of bytes) (lookup_of w bytes key).spans ≡ values_of key rs
  pub sound : (lookup_of w bytes key).damage ≡ None

-- nothing differs exactly when every key has the same values in both
abbrev pub EmptyIsSame : List KeyValue → List KeyValue → Type 0
EmptyIsSame rs ss =
    (difference rs ss ≡ []) ↔ ((key : List ℕ) → values_of key rs ≡ values_of key ss)
