-- The byte lists that a store may hold, and what each call does to them.
use Rattle.std.specs.Prelude.{◌≡◌, ℕ, ◌+◌, ◌<◌, ◌≤◌, ◌⊎◌, List, ◌++◌, length, take, drop, Result, IsErrOf, codes}
use Rattle.cdb_store.specs.declared.store.StoreFault.{StoreFault}
use Rattle.cdb_store.specs.declared.store.StoreFault.TheVariants.{Device, NoMemory}

-- old with these bytes from pos on, past its end too
abbrev pub overwrite : List ℕ → ℕ → List ℕ → List ℕ
overwrite old pos bytes = take pos old ++ (bytes ++ drop (pos + length bytes) old)

-- n bytes from pos on
abbrev pub part : ℕ → ℕ → List ℕ → List ℕ
part pos n image = take n (drop pos image)

-- n bytes from pos on, and m bytes from start on, have none in common
abbrev pub AreApart : (pos n start m : ℕ) → Type 0
AreApart pos n start m = (pos + n ≤ start) ⊎ (start + m ≤ pos)

-- no image came and none went
pub record SameImages (old new : List ℕ → Type 0) : Type 0 where
  pub no_other : (b : List ℕ) → new b → old b
  pub none_lost : (b : List ℕ) → old b → new b

-- the images are the old ones that have the bytes read
pub record AfterRead (pos : ℕ) (bytes : List ℕ) (old new : List ℕ → Type 0) : Type 0 where
  pub no_other : (b : List ℕ) → new b → old b
  pub read : (b : List ℕ) → new b → part pos (length bytes) b ≡ bytes
  pub none_lost : (b : List ℕ) → old b → part pos (length bytes) b ≡ bytes → new b

-- the images are the old ones, each with the bytes written
pub record AfterWrite (pos : ℕ) (bytes : List ℕ) (old new : List ℕ → Type 0) : Type 0 where
  pub no_other : (b : List ℕ) → new b → (a : List ℕ) × old a × (b ≡ overwrite a pos bytes)
  pub none_lost : (a : List ℕ) → old a → new (overwrite a pos bytes)

-- the same bytes outside of n bytes from pos on
pub record Torn (pos n : ℕ) (old new : List ℕ) : Type 0 where
  pub before : take pos new ≡ take pos old
  pub after : drop (pos + n) new ≡ drop (pos + n) old

-- each image is an old one with any bytes in the range, and each old one still has one
pub record AfterTornWrite (pos n : ℕ) (old new : List ℕ → Type 0) : Type 0 where
  pub no_other : (b : List ℕ) → new b → (a : List ℕ) × old a × Torn pos n a b
  pub none_lost : (a : List ℕ) → old a → (b : List ℕ) × new b × Torn pos n a b

-- each image is an old one with any bytes in the range
pub record TornWithin (pos n : ℕ) (old new : List ℕ → Type 0) : Type 0 where
  pub each : (b : List ℕ) → new b → (a : List ℕ) × old a × Torn pos n a b

-- the images are the first n bytes of the old ones
pub record AfterCut (n : ℕ) (old new : List ℕ → Type 0) : Type 0 where
  pub no_other : (b : List ℕ) → new b → (a : List ℕ) × old a × (b ≡ take n a)
  pub none_lost : (a : List ℕ) → old a → new (take n a)

-- Device is answered only if the store has failed in the call, and the count doesn't fall
pub record HasCause (before now : ℕ) (result : Result (Unit {0}) StoreFault) : Type 0 where
  pub later : before ≤ now
  pub failed : IsErrOf result Device → before < now

-- each image has this length
pub record AreSized (n : ℕ) (images : List ℕ → Type 0) : Type 0 where
  pub each : (b : List ℕ) → images b → length b ≡ n

-- each image has these bytes from pos on
pub record ImagesHold (pos : ℕ) (bytes : List ℕ) (images : List ℕ → Type 0) : Type 0 where
  pub each : (b : List ℕ) → images b → part pos (length bytes) b ≡ bytes

-- each image has the same n bytes from pos on as an old one
pub record KeepsPart (pos n : ℕ) (old new : List ℕ → Type 0) : Type 0 where
  pub each : (b : List ℕ) → new b → (a : List ℕ) × old a × (part pos n b ≡ part pos n a)

-- each image is an old one, with its n bytes from from on written at to too, over what was there
pub record Copied (from to n : ℕ) (old new : List ℕ → Type 0) : Type 0 where
  pub each : (b : List ℕ) → new b → (a : List ℕ) × old a × (b ≡ overwrite a to (part from n a))

-- the byte lists that some bytes, written over each of these, leave
abbrev pub Over : ℕ → List ℕ → (List ℕ → Type 0) → List ℕ → Type 0
Over pos bytes images b = (a : List ℕ) × images a × (b ≡ overwrite a pos bytes)

-- ---- What a fault is called.

-- its number
abbrev pub fault_number : StoreFault → ℕ
fault_number Device = 1
fault_number NoMemory = 2

-- its words
abbrev pub fault_message : StoreFault → List ℕ
fault_message Device = codes "the device failed"
fault_message NoMemory = codes "no memory"

-- ---- What follows for the images of a store from several calls, or from one.

-- bytes that were held from pos on still are
abbrev pub StaysHeld : ℕ → List ℕ → (old new : List ℕ → Type 0) → Type 0
StaysHeld pos bytes old new = ImagesHold pos bytes old → ImagesHold pos bytes new

-- no byte list is an image
abbrev pub HasNoImage : (List ℕ → Type 0) → Type 0
HasNoImage images = (b : List ℕ) → images b → ⊥

-- each image is an old one with two pieces of it, one after the other, over what was there from to on
pub record Gathered (from n next m to : ℕ) (old new : List ℕ → Type 0) : Type 0 where
  pub each : (b : List ℕ) → new b
      → (a : List ℕ) × old a × (b ≡ overwrite a to (part from n a ++ part next m a))
