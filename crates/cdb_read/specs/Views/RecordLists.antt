-- What a check keeps of the records of all tables.
use Rattle.std.specs.Prelude.{ℕ, ◌≡◌, ◌<◌, ◌≤◌, ◌+◌, min, List, [], ◌∷◌, ◌++◌, length, get_or, filter, Option, Some, None}
use Rattle.cdb_form.specs.Format.{WordPair, in_table}
use Rattle.cdb_read.specs.Views.TableRecords.{Marks}
use Rattle.cdb_read.specs.declared.checking.table_records.TableRecords.{TableRecords}

-- places that rise, from one on
abbrev pub IsRising : ℕ → List WordPair → Type 0
IsRising place [] = Unit {0}
IsRising place (e ∷ es) = (place ≤ e.second) × IsRising (e.second + 1) es

-- each list has those of some records whose hash has its table, in their order, and marks those
-- that some slots point to
pub record ListsMark (lists : List TableRecords) (entries slots : List WordPair) : Type 0 where
  pub many : length lists ≡ 256
  pub rising : IsRising 1 entries
  pub each : (n : ℕ) (d : TableRecords) → n < 256
      → Marks (get_or lists n d) (filter (in_table n) entries) slots

-- one record more, which is not marked
abbrev pub HasAdded : (old new : List TableRecords) → WordPair → Type 0
HasAdded old new e = (entries : List WordPair) → ListsMark old entries []
    → IsRising 1 (entries ++ e ∷ []) → ListsMark new (entries ++ e ∷ []) []

-- the lesser of two places, if there are any
abbrev pub earlier_of : Option ℕ → Option ℕ → Option ℕ
earlier_of None other = other
earlier_of (Some a) None = Some a
earlier_of (Some a) (Some b) = Some (min a b)
