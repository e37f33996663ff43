-- Laws of the texts.
use Rattle.std.specs.Prelude.{ℕ, List, ◌++◌, length, map, ◌≤◌, ◌≡◌}
use Rattle.cdb_form.specs.Format.{KeyValue, AreBytes}
use Rattle.cdb_form.specs.Text.Parse.{Change, Putting, Removing, SpellsChange, ReadsChanges, amending_text}
use Rattle.cdb_form.specs.Text.Form as form
use Rattle.cdb_form.specs.Text.Map.{map_lines, map_text}
use Rattle.cdb_form.specs.Text.Native.{Spells, Reads, text_of}

-- both lengths are within a bound
pub record LengthsFit (greatest : ℕ) (r : KeyValue) : Type 0 where
  pub key : length r.key ≤ greatest
  pub value : length r.value ≤ greatest

-- the key of a removal is bytes, and its length is within a bound
pub record KeyFits (greatest : ℕ) (key : List ℕ) : Type 0 where
  pub bytes : AreBytes key
  pub length_fits : length key ≤ greatest

-- the lengths of a change are within a bound
abbrev pub ChangeFits : ℕ → Change → Type 0
ChangeFits greatest (Putting r) = LengthsFit greatest r
ChangeFits greatest (Removing key) = KeyFits greatest key

-- a text reads as these items and no others, and then the rest
pub record IsReadAs {X : Type 0} (spelling : ℕ → List ℕ → X → Type 0) (greatest : ℕ) (xs : List X)
    (text rest : List ℕ) : Type 0 where
  pub reads : form.Reads spelling greatest xs text rest
  pub only : (others : List X) (more : List ℕ)
      → form.Reads spelling greatest others text more → (others ≡ xs) × (more ≡ rest)

-- the text of some records reads as these records and no others, whatever follows it
abbrev pub TextReadsBack : ℕ → List KeyValue → List ℕ → Type 0
TextReadsBack greatest rs rest = IsReadAs Spells greatest rs (text_of rs ++ rest) rest

-- the amending text of some changes reads as these changes and no others, whatever follows it
abbrev pub ChangesReadBack : ℕ → List Change → List ℕ → Type 0
ChangesReadBack greatest changes rest =
    IsReadAs SpellsChange greatest changes (amending_text changes ++ rest) rest

-- a text is a native one of some records exactly if it is an amending one of their puts, and
-- then it is one of no other changes
pub record AmendsByPuts (greatest : ℕ) (text : List ℕ) : Type 0 where
  pub puts : (rs : List KeyValue) (rest : List ℕ) → Reads greatest rs text rest
      → IsReadAs SpellsChange greatest (map Putting rs) text rest
  pub records : (rs : List KeyValue) (rest : List ℕ)
      → ReadsChanges greatest (map Putting rs) text rest → Reads greatest rs text rest

-- the map text of some records holds these records
abbrev pub MapReadsBack : List KeyValue → Type 0
MapReadsBack rs = map_lines (map_text rs) ≡ rs
