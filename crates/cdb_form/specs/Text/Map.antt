-- The map text of a list of records: a line for each, its key, a blank, and its value.
use Rattle.std.specs.List.{position_or_len, prefix_len, slice_split}
use Rattle.std.specs.Prelude.{All, Bool, List, [], codes, drop, flat_map, ◌++◌, ◌==◌, ◌||◌, ◌∷◌, ◌≡◌, false, if◌then◌else◌, take, true, ℕ}
use Rattle.cdb_form.specs.Format.{KeyValue}

-- a space or a tab
abbrev pub is_blank : ℕ → Bool
is_blank c = (c == 32) || (c == 9)

abbrev pub is_newline : ℕ → Bool
is_newline c = c == 10

-- what is left of a line after the blanks at its start
abbrev pub behind_blanks : List ℕ → List ℕ
behind_blanks line = drop (prefix_len is_blank line) line

-- the bytes before the first blank, and those from it on
abbrev pub before_blank : List ℕ → List ℕ
before_blank line = take (position_or_len is_blank line) line

abbrev pub from_blank : List ℕ → List ℕ
from_blank line = drop (position_or_len is_blank line) line

-- the key goes up to the first blank, and the value is what follows that run of blanks
abbrev pub line_pair : List ℕ → KeyValue
line_pair words = record { key = before_blank words; value = behind_blanks (from_blank words) }

-- a line is ignored that is empty after its first blanks, or has a number sign there
abbrev pub is_ignored : List ℕ → Bool
is_ignored [] = true
is_ignored (c ∷ words) = c == 35

abbrev pub line_records : List ℕ → List KeyValue
line_records line =
    if is_ignored (behind_blanks line) then [] else line_pair (behind_blanks line) ∷ []

-- a text is cut at its newlines: after the last newline there is one more line, which may be empty
abbrev pub lines_of : List ℕ → List (List ℕ)
lines_of text = slice_split is_newline text

-- the records of a map text: every input is one
abbrev pub map_lines : List ℕ → List KeyValue
map_lines text = flat_map line_records (lines_of text)

-- a record is written as its key, a space, its value and a newline
abbrev pub map_line : KeyValue → List ℕ
map_line r = r.key ++ codes " " ++ r.value ++ codes "\n"

abbrev pub map_text : List KeyValue → List ℕ
map_text rs = flat_map map_line rs

-- no byte passes the test
abbrev pub Lacks : (ℕ → Bool) → List ℕ → Type 0
Lacks test bytes = All (λ c. test c ≡ false) bytes

-- the first byte, if any, does not pass the test
abbrev pub BeginsOther : (ℕ → Bool) → List ℕ → Type 0
BeginsOther test bytes = prefix_len test bytes ≡ 0

-- a record that a map text holds as it is: its line is not ignored, and its key and its value end
-- where they should
pub record IsMapWord (r : KeyValue) : Type 0 where
  pub kept : is_ignored r.key ≡ false
  pub key_blank : Lacks is_blank r.key
  pub key_line : Lacks is_newline r.key
  pub value_line : Lacks is_newline r.value
  pub value_blank : BeginsOther is_blank r.value

-- a line, without its newline, that holds no record
pub record IsIgnoredLine (line : List ℕ) : Type 0 where
  pub whole : Lacks is_newline line
  pub none : line_records line ≡ []

-- and one that holds a record
pub record IsLineOf (r : KeyValue) (line : List ℕ) : Type 0 where
  pub whole : Lacks is_newline line
  pub holds : line_records line ≡ r ∷ []

-- lines, each with its newline
abbrev pub with_newlines : List (List ℕ) → List ℕ
with_newlines lines = flat_map (λ line. line ++ codes "\n") lines
