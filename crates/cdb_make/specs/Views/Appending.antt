-- Whole records that are appended at once.
use Rattle.std.specs.Prelude.{ℕ, ◌≡◌, ◌+◌, ◌*◌, ◌<◌, ◌≤◌, ◌⊎◌, true, false, List, [], ◌∷◌, ◌++◌, length, take, drop, vec_capacity, flat_map, sum_by}
use Rattle.cdb_store.specs.declared.store.Store.{Ghosts}
use Rattle.cdb_form.specs.declared.width.Width.{Ghosts as Widths}
use Rattle.cdb_form.specs.Format.{file_size, whole_size, KeyValue, record_bytes, record_size, whole_records}
use Rattle.cdb_store.specs.declared.make_fault.MakeFault.{MakeFault}
use Rattle.cdb_store.specs.declared.make_fault.MakeFault.TheVariants.{Broken, Lookup, TooBig, NoMemory, Writing}
use Rattle.cdb_make.specs.declared.maker.Maker.{Maker}
use Rattle.cdb_make.specs.Rolls.{Sees}
use Rattle.cdb_make.specs.Views.Maker.{Holds, WhereHonest, HasStoreFailed, HasNotFailed, HasGone, SameCounts, StaysWhole, Passes, gone_in, count_in}

-- all whole records at the start of some bytes
abbrev pub records_at : ℕ → List ℕ → List KeyValue
records_at w bytes = whole_records w (length bytes) bytes

-- the number of bytes that the first so many of them have
abbrev pub first_size : ℕ → List ℕ → ℕ → ℕ
first_size w bytes count = sum_by (record_size w) (take count (records_at w bytes))

-- the first so many of them are the first `size` bytes, and the others are those of the rest
pub record AreFirst (w : ℕ) (bytes : List ℕ) (count size : ℕ) : Type 0 where
  pub few : count ≤ length (records_at w bytes)
  pub within : size ≤ length bytes
  pub sum : size ≡ first_size w bytes count
  pub are : take size bytes ≡ flat_map (record_bytes w) (take count (records_at w bytes))
  pub rest : records_at w (drop size bytes) ≡ drop count (records_at w bytes)

-- the size of the file of all records, those that go too
abbrev pub full_size : {S L : Type 0} {s : Ghosts S} {l : Widths L} → Maker S L s l → ℕ
full_size {l = l} m = m.roll.end + 4 * l.WORD * length m.roll.hashes.items

-- beside the records that go, there is no room for all of these
abbrev pub IsCrowded : {S L : Type 0} {s : Ghosts S} {l : Widths L} → Maker S L s l → List KeyValue
    → Type 0
IsCrowded {l = l} m rs = m.limit < full_size m + sum_by (whole_size l.WORD) rs

-- all these records were written after the others, and take so many bytes: no more were written, or
-- those of a pass before them, if records go beside which they have no room
pub record AppendsAll {S L : Type 0} {s : Ghosts S} {l : Widths L} (old new : Maker S L s l)
    (rs : List KeyValue) (n : ℕ) : Type 0 where
  pub was : old.broken ≡ false
  pub whole : new.broken ≡ false
  pub size : n ≡ sum_by (record_size l.WORD) rs
  pub holds : (before : List KeyValue) → Holds old before → Holds new (before ++ rs)
  pub written : (HasGone old → ⊥) → s.written new.store ≡ s.written old.store + n
  pub each : (b : List ℕ) → s.image new.store b → (a : List ℕ) × s.image old.store a
      × ((all : List KeyValue) → Sees old.roll all a
      → (s.written new.store ≡ s.written old.store + n)
      ⊎ (Passes old new (gone_in old) n all × IsCrowded old rs))
  pub count : count_in new ≡ count_in old + length rs
  pub failures : HasNotFailed old new

-- the file with these records after the others would keep the limit, or would pass it
abbrev pub KeepsLimit : {S L : Type 0} {s : Ghosts S} {l : Widths L} → Maker S L s l
    → Maker S L s l → List KeyValue → Type 0
KeepsLimit {s = s} {l = l} old new rs = (before : List KeyValue) → Holds old before
    → WhereHonest (s.image new.store) (file_size l.WORD (before ++ rs) ≤ old.limit)

abbrev pub PassesLimit : {S L : Type 0} {s : Ghosts S} {l : Widths L} → Maker S L s l
    → Maker S L s l → List KeyValue → Type 0
PassesLimit {s = s} {l = l} old new rs = (before : List KeyValue) → Holds old before
    → WhereHonest (s.image new.store) (old.limit < file_size l.WORD (before ++ rs))

-- the first of these records are held, but not the next one, and this holds up to that one
pub record AppendsSome {S L : Type 0} {s : Ghosts S} {l : Widths L} (old new : Maker S L s l)
    (rs : List KeyValue) (P : List KeyValue → Type 0) : Type 0 where
  pub done : List KeyValue
  pub next : KeyValue
  pub later : List KeyValue
  pub all : rs ≡ done ++ next ∷ later
  pub was : old.broken ≡ false
  pub whole : new.broken ≡ false
  pub holds : (before : List KeyValue) → Holds old before → Holds new (before ++ done)
  pub why : P (done ++ next ∷ [])

-- why not all were appended, and what is held then
abbrev pub FailsAppending : {S L : Type 0} {s : Ghosts S} {l : Widths L} → Maker S L s l
    → Maker S L s l → List KeyValue → MakeFault → Type 0
FailsAppending old new rs Broken = (old.broken ≡ true) × (new ≡ old)
FailsAppending old new rs Lookup = ⊥
FailsAppending old new rs TooBig =
    AppendsSome old new rs (PassesLimit old new) × HasNotFailed old new
FailsAppending old new rs NoMemory =
    AppendsSome old new rs (KeepsLimit old new) × HasNotFailed old new
FailsAppending old new rs Writing =
    (AppendsSome old new rs (KeepsLimit old new) × HasStoreFailed old new × StaysWhole old new)
    ⊎ (HasGone old × (old.broken ≡ false) × (new.broken ≡ true) × HasStoreFailed old new
    × IsCrowded old rs × SameCounts old new)

-- a lazy maker that noted no record before tags those that come
abbrev pub BeginsTags : {S L : Type 0} {s : Ghosts S} {l : Widths L} → Maker S L s l → Maker S L s l
    → Type 0
BeginsTags old new = old.lazy ≡ true → vec_capacity old.roll.hashes ≡ 0 → new.roll.tagged ≡ true

-- bytes were not written after the records, since memory was refused or the store failed
abbrev pub FailsWriting : {S L : Type 0} {s : Ghosts S} {l : Widths L} → Maker S L s l
    → Maker S L s l → MakeFault → Type 0
FailsWriting old new NoMemory = HasNotFailed old new
FailsWriting old new Writing = HasStoreFailed old new
FailsWriting old new fault = ⊥

-- these records were noted, whose bytes were in the store
pub record Enters {S L : Type 0} {s : Ghosts S} {l : Widths L} (old new : Maker S L s l)
    (rs : List KeyValue) : Type 0 where
  pub whole : new.broken ≡ false
  pub holds : (before : List KeyValue) → Holds old before → Holds new (before ++ rs)
  pub end : new.roll.end ≡ old.roll.end + sum_by (record_size l.WORD) rs
  pub count : length new.roll.hashes.items ≡ length old.roll.hashes.items + length rs
  pub gone : new.roll.gone.count ≡ old.roll.gone.count
  pub gone_size : new.roll.gone.size ≡ old.roll.gone.size
  pub limit : new.limit ≡ old.limit
