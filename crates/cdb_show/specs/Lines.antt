-- The lines of bytes.
use Rattle.std.specs.Prelude.{ℕ, ◌≡◌, ◌+◌, ◌-◌, ◌<◌, ◌^◌, List, get_or, if◌then◌else◌, length, min, not, take}
use Rattle.std.specs.List.{count_by}
use Rattle.cdb_form.specs.Text.Map.{is_newline}
use Rattle.cdb_show.specs.declared.line_count.LineCount.{LineCount}

-- the number of newlines they have
abbrev pub newlines : List ℕ → ℕ
newlines bytes = count_by is_newline bytes

-- the line, counted from 1, of a place in an input whose reader gave so many newlines before it
abbrev pub line_of : (before : ℕ) → (input : List ℕ) → (place : ℕ) → ℕ
line_of before input place = before + newlines (take place input) + 1

-- these bytes were taken of such an input, as far as a count goes
pub record Counts (before : ℕ) (taken : List ℕ) (count : LineCount) : Type 0 where
  pub newlines : count.newlines ≡ min (before + newlines taken) (2 ^ 64 - 1)
  pub bytes : count.bytes ≡ min (length taken) (2 ^ 64 - 1)
  pub amid : 0 < length taken → count.amid ≡ not (is_newline (get_or taken (length taken - 1) 0))

-- the number of newlines that the reader gave that inputs share
abbrev pub shared_newlines : LineCount → ℕ
shared_newlines count = if count.is_shared then count.newlines else count.shared
