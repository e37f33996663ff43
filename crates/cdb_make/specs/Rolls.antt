-- What a roll says of an image, and what a look at a key finds.
use Rattle.std.specs.Prelude.{ℕ, ◌≡◌, Bool, true, false, cond, List, [], ◌∷◌, map, get_or, All, Option}
use Rattle.cdb_form.specs.declared.width.Width.{Ghosts as Widths}
use Rattle.cdb_form.specs.Format.{key_hash, head_size, KeyValue, IsRecord, record_bytes, record_size}
use Rattle.cdb_make.specs.Chains.{FindsLast}
use Rattle.cdb_make.specs.Spans.{gone_of, found_of, AreOf, Stand}
use Rattle.cdb_make.specs.Survivors.{has_key}
use Rattle.cdb_make.specs.Views.Places.{places_in}
use Rattle.cdb_make.specs.Views.Roll.{searched, sought_in, marks_in}
use Rattle.cdb_make.specs.declared.roll.Roll.{Roll}

-- an image has these records one after another, following the head, and the roll notes them
pub record Sees {L : Type 0} {l : Widths L} (m : Roll L l) (all : List KeyValue) (b : List ℕ)
    : Type 0 where
  pub are : All IsRecord all
  pub stand : Stand (head_size l.WORD) (map (record_bytes l.WORD) all) b
  pub hashes : m.hashes.items ≡ map (λ r. key_hash r.key) all
  pub searched : searched m ≡ map (λ r. sought_in m r.key) all
  pub of : AreOf (head_size l.WORD) (places_in m.places) m.end (map (record_size l.WORD) all)

-- no image has records that the roll notes
pub record SeesNone {L : Type 0} {l : Widths L} (m : Roll L l) (images : List ℕ → Type 0)
    : Type 0 where
  pub each : (b : List ℕ) → images b → (all : List KeyValue) → Sees m all b → ⊥

-- marks for the records of a key that have none
abbrev pub fresh : List ℕ → List Bool → List KeyValue → List Bool
fresh k [] rs = []
fresh k (m ∷ ms) [] = []
fresh k (m ∷ ms) (r ∷ rs) = cond m false (has_key k r) ∷ fresh k ms rs

-- record n of some has the key and does not go
abbrev pub IsFreshRecord : List ℕ → List Bool → List KeyValue → ℕ → Type 0
IsFreshRecord k ms rs n = get_or (fresh k ms rs) n false ≡ true

-- in each image, this is the last of the first `end` records that has the key and does not go
pub record LooksLast {L : Type 0} {l : Widths L} (key : List ℕ) (m : Roll L l) (end : ℕ)
    (last : Option ℕ) (images : List ℕ → Type 0) : Type 0 where
  pub each : (b : List ℕ) → images b → (all : List KeyValue) → Sees m all b
      → FindsLast (IsFreshRecord key (gone_of (marks_in m)) all) end last

-- in each image, those are found that have the key and do not go
pub record LooksAll {L : Type 0} {l : Widths L} (key : List ℕ) (m : Roll L l)
    (images : List ℕ → Type 0) : Type 0 where
  pub each : (b : List ℕ) → images b → (all : List KeyValue) → Sees m all b
      → found_of (marks_in m) ≡ fresh key (gone_of (marks_in m)) all
