-- Where the key and the value of a record lie, by its header.
use Rattle.std.specs.Prelude.{ℕ, ◌≡◌, ◌≤◌, ◌+◌, ◌*◌, true}
use Rattle.cdb_form.specs.declared.header.Header.{Header}
use Rattle.cdb_read.specs.Views.Walking.{LiesAt, behind}
use Rattle.cdb_read.specs.declared.span.Pair.{Pair}
use Rattle.cdb_form.specs.Format.{WordPair, pair_size, head_size, has_slots}

-- the record at a place with this header, which ends before a limit
pub record HasSpans (w place : ℕ) (header : Header) (limit : ℕ) (pair : Pair) : Type 0 where
  pub lies : LiesAt w place pair
  pub klen : pair.key.len ≡ header.klen
  pub vlen : pair.value.len ≡ header.vlen
  pub before : behind pair ≤ limit

-- ---- Where a table lies.

-- after the head and inside a file of so many bytes
pub record LiesInside (w size : ℕ) (p : WordPair) : Type 0 where
  pub behind : head_size w ≤ p.first
  pub inside : p.first + pair_size w * p.second ≤ size

-- it lies there if it has slots
abbrev pub StandsInside : ℕ → ℕ → WordPair → Type 0
StandsInside w size p = has_slots p ≡ true → LiesInside w size p
