-- The entries of a roll in chains, by the buckets of their hashes, from the last back.
use Rattle.std.specs.Prelude.{ℕ, ◌≡◌, ◌-◌, ◌%◌, ◌<◌, ◌≤◌, Bool, true, false, List, length, slice_index, get_or, Option, Some, None, ◌+◌, ◌*◌, ◌^◌, fold, drop, bytes_eq, Result, Ok, Err}
use Rattle.cdb_form.specs.Format.{key_hash, prefix_size, prefix_record}
use Rattle.std.specs.Bool.{Decides}
use Rattle.cdb_store.specs.Images.{part}
use Rattle.cdb_make.specs.declared.key_at.LookFault.{LookFault}
use Rattle.cdb_make.specs.declared.key_at.LookFault.TheVariants.{Failed, Foreign}

-- the bucket of a hash among so many
abbrev pub bucket_of : ℕ → ℕ → ℕ
bucket_of count hash = hash % count

-- an entry without a mark whose hash has this bucket; and one with this hash
pub record IsIn (count b : ℕ) (hashes : List ℕ) (marks : List Bool) (k : ℕ) : Type 0 where
  pub bucket : bucket_of count (slice_index hashes k) ≡ b
  pub stays : get_or marks k true ≡ false

pub record Has (hash : ℕ) (hashes : List ℕ) (marks : List Bool) (k : ℕ) : Type 0 where
  pub same : slice_index hashes k ≡ hash
  pub stays : get_or marks k true ≡ false

-- n is the number after the last of the first `end` entries for which this holds, or 0
pub record IsLast (P : ℕ → Type 0) (end n : ℕ) : Type 0 where
  pub within : n ≤ end
  pub here : 0 < n → P (n - 1)
  pub none : (k : ℕ) → n ≤ k → k < end → P k → ⊥

-- n is the last of the first `end` entries for which this holds
pub record IsLastOne (P : ℕ → Type 0) (end n : ℕ) : Type 0 where
  pub within : n < end
  pub here : P n
  pub none : (k : ℕ) → n < k → k < end → P k → ⊥

-- a search finds it, or there is none
abbrev pub FindsLast : (ℕ → Type 0) → ℕ → Option ℕ → Type 0
FindsLast P end None = (k : ℕ) → k < end → P k → ⊥
FindsLast P end (Some n) = IsLastOne P end n

-- each bucket leads to its last entry, and each entry without a mark to the one before it
pub record AreChained (heads before hashes : List ℕ) (marks : List Bool) : Type 0 where
  pub within : length before ≤ length hashes
  pub ends : (b : ℕ) → b < length heads
      → IsLast (IsIn (length heads) b hashes marks) (length before) (slice_index heads b)
  pub steps : (k : ℕ) → k < length before → get_or marks k true ≡ false
      → IsLast (IsIn (length heads) (bucket_of (length heads) (slice_index hashes k)) hashes marks)
      k (slice_index before k)

-- no entry from `at` to before `end` has the hash, and the one before `at` has its bucket
pub record Reaches (count hash : ℕ) (hashes : List ℕ) (marks : List Bool) (long end at : ℕ) : Type 0 where
  pub within : at ≤ long
  pub here : 0 < at → IsIn count (bucket_of count hash) hashes marks (at - 1)
  pub none : (k : ℕ) → at ≤ k → k < end → Has hash hashes marks k → ⊥

-- ---- The tag of a key, and by which of its numbers, hash or tag, the entries of a roll are found.

-- the tag t, and then one more byte
abbrev pub tag_step : ℕ → ℕ → ℕ
tag_step t byte = (2246822507 * t + byte) % 2 ^ 32

-- the second hash of a key: from 2166136261, byte after byte
abbrev pub second_hash : List ℕ → ℕ
second_hash key = fold tag_step 2166136261 key

-- the numbers by which entries are found: their tags if they have some, else their hashes
abbrev pub searched_by : Bool → List ℕ → List ℕ → List ℕ
searched_by true tags hashes = tags
searched_by false tags hashes = hashes

-- and the number of a key
abbrev pub sought_by : Bool → List ℕ → ℕ
sought_by true key = second_hash key
sought_by false key = key_hash key

-- ---- What the bytes of an image say of a record that is stored at a place, in words of w bytes.

-- the key of the record at a place, and how many bytes the record takes
unfoldable pub key_at : ℕ → ℕ → List ℕ → List ℕ
key_at w p image = (prefix_record w (drop p image)).key

unfoldable pub size_at : ℕ → ℕ → List ℕ → ℕ
size_at w p image = prefix_size w (drop p image)

-- true if it has this key
abbrev pub has_key_at : ℕ → List ℕ → List ℕ → ℕ → Bool
has_key_at w key image p = bytes_eq (key_at w p image) key

-- no image came
pub record NoNewImage (old new : List ℕ → Type 0) : Type 0 where
  pub no_other : (b : List ℕ) → new b → old b

-- every image has these bytes from a place on
pub record HoldAt (place : ℕ) (bytes : List ℕ) (images : List ℕ → Type 0) : Type 0 where
  pub each : (b : List ℕ) → images b → part place (length bytes) b ≡ bytes

-- in each image the record at a place has a key of k bytes and a value of v
pub record HasLengthsInImages (w p k v : ℕ) (images : List ℕ → Type 0) : Type 0 where
  pub size : (b : List ℕ) → images b → size_at w p b ≡ 2 * w + k + v
  pub key : (b : List ℕ) → images b → key_at w p b ≡ part (p + 2 * w) k b

-- in each image the bytes from a place on are the key exactly if the answer is true
pub record TellsSameInImages (same : Bool) (place : ℕ) (key : List ℕ) (images : List ℕ → Type 0)
    : Type 0 where
  pub each : (b : List ℕ) → images b → Decides same (part place (length key) b ≡ key)

-- what a look at one place says of an image
abbrev pub LookTellsOfImage : ℕ → ℕ → ℕ → List ℕ → Result (Option ℕ) LookFault → List ℕ → Type 0
LookTellsOfImage w p end key (Ok None) b = (p + size_at w p b ≤ end) × (has_key_at w key b p ≡ false)
LookTellsOfImage w p end key (Ok (Some n)) b =
    (p + size_at w p b ≤ end) × (has_key_at w key b p ≡ true) × (n ≡ size_at w p b)
LookTellsOfImage w p end key (Err Failed) b = Unit {0}
LookTellsOfImage w p end key (Err Foreign) b = end < p + size_at w p b

pub record LooksAtImages (w p end : ℕ) (key : List ℕ) (answer : Result (Option ℕ) LookFault)
    (images : List ℕ → Type 0) : Type 0 where
  pub each : (b : List ℕ) → images b → LookTellsOfImage w p end key answer b

-- a record that was found ends at `end` or before
abbrev pub SizeWithin : ℕ → ℕ → Result (Option ℕ) LookFault → Type 0
SizeWithin p end (Ok None) = Unit {0}
SizeWithin p end (Ok (Some n)) = p + n ≤ end
SizeWithin p end (Err e) = Unit {0}
