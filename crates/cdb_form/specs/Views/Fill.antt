-- What a buffer is filled with: records as a file has them, behind what it held.
use Rattle.std.specs.Prelude.{All, List, [], drop, flat_map, length, take, ◌++◌, ◌+◌, ◌∷◌, ◌≡◌, ◌≤◌, ◌⊎◌, ℕ}
use Rattle.cdb_form.specs.Format.{IsRecord, KeyValue, record_bytes, record_size}
use Rattle.cdb_form.specs.Laws.Text.{LengthsFit}
use Rattle.cdb_form.specs.declared.text.fill.Filled.{Filled}

-- no record came behind the first `held` bytes
abbrev pub nothing : (held : ℕ) → Filled
nothing held = record { taken = 0; held = held; count = 0 }

-- the first n bytes of a text are these records, one after the other, each as `Begins bytes k r` says
abbrev pub BeginsWithEach : (List ℕ → ℕ → KeyValue → Type 0) → List KeyValue → List ℕ → ℕ → Type 0
BeginsWithEach Begins [] text n = n ≡ 0
BeginsWithEach Begins (r ∷ rs) text n =
    (k more : ℕ) × Begins text k r × (n ≡ k + more) × BeginsWithEach Begins rs (drop k text) more

-- Some records come, and the buffer has them behind its first `from` bytes. Their lengths fit a word, which is at
-- most `top`.
pub record Fills (Come : List KeyValue → Type 0) (w top : ℕ) (old new : List ℕ) (from : ℕ) (f : Filled) : Type 0 where
  pub records : List KeyValue
  pub come : Come records
  pub count : f.count ≡ length records
  pub are : All IsRecord records
  pub fit : All (LengthsFit top) records
  pub written : take f.held new ≡ take from old ++ flat_map (record_bytes w) records
  pub within : f.held ≤ length new
  pub long : length new ≡ length old

-- a record's lengths fit a word, and there is room for it behind the first `from` bytes of so many
pub record HasRoom (w top from long : ℕ) (r : KeyValue) : Type 0 where
  pub fits : LengthsFit top r
  pub room : from + record_size w r ≤ long

-- the record was put behind the first `from` bytes, up to `end`
pub record PutsBehind (w : ℕ) (old new : List ℕ) (from end : ℕ) (r : KeyValue) : Type 0 where
  pub end_is : end ≡ from + record_size w r
  pub written : take end new ≡ take from old ++ record_bytes w r

-- it was put there, or it has no room and nothing changed
abbrev pub PutsIfRoom : (w top : ℕ) (old new : List ℕ) (from end : ℕ) → KeyValue → Type 0
PutsIfRoom w top old new from end r =
    (HasRoom w top from (length old) r × PutsBehind w old new from end r)
    ⊎ ((HasRoom w top from (length old) r → ⊥) × (end ≡ from) × (new ≡ old))
