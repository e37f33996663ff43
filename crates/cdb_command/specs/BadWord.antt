-- The first letter or word that is no part of a command line: the words are taken one after the other, and
-- the letters of each.
use Prim.Native.Char.{code}
use Rattle.std.specs.Prelude.{ℕ, ◌==◌, Bool, not, ◌&&◌, true, false, if◌then◌else◌, List, [], ◌∷◌, drop, codes, bytes_eq, Option, None, Some, is_some, Result, Ok, Err}
use Rattle.std.specs.List.{list_any}
use Rattle.std.specs.Str.{chars}
use Rattle.cdb_command.specs.Letters.{flag_letters}
use Rattle.cdb_command.specs.Line.{Text}
use Rattle.cdb_command.specs.Asked.{◌>>=◌}
use Rattle.cdb_command.specs.Refused.{asks_in, Refused, Unknown, Long, NoValue, Twice, Words, Help}
use Rattle.cdb_command.specs.declared.bad_word.Values.{Values}

abbrev pub no_values : Values
no_values = record { number = false; temporary = false; base = false; waiting = None }

-- no letter waits for its value any more
abbrev pub none_waits : Values → Values
none_waits v =
    record { number = v.number; temporary = v.temporary; base = v.base; waiting = None }

-- the letters without a value
abbrev pub is_flag : ℕ → Bool
is_flag letter = list_any (λ flag. flag == letter) flag_letters

abbrev pub unless_twice : (letter : ℕ) → Bool → Values → Result Values Refused
unless_twice letter true v = Err (Twice letter)
unless_twice letter false v = Ok v

abbrev pub letter_met : Values → ℕ → Result Values Refused
letter_met v letter =
    if letter == code "n" then unless_twice letter v.number (record {
      number = true;
      temporary = v.temporary;
      base = v.base;
      waiting = Some letter;
    })
    else if letter == code "t" then unless_twice letter v.temporary (record {
      number = v.number;
      temporary = true;
      base = v.base;
      waiting = Some letter;
    })
    else if letter == code "b" then unless_twice letter v.base (record {
      number = v.number;
      temporary = v.temporary;
      base = true;
      waiting = Some letter;
    })
    else if is_flag letter then Ok v else Err (Unknown letter)

-- what follows a letter with a value in its word is its value
abbrev pub letters_met : Values → List ℕ → Result Values Refused
letters_met v [] = Ok v
letters_met v (letter ∷ letters) =
    if is_some v.waiting then Ok (none_waits v)
    else letter_met v letter >>= λ after. letters_met after letters

-- a word that has no letters: a name, or the value of the letter before it
abbrev pub is_plain : Text → Bool
is_plain [] = true
is_plain (c ∷ []) = true
is_plain (c ∷ d ∷ more) = not (c == code "-")

abbrev pub is_long : Text → Bool
is_long [] = false
is_long (c ∷ []) = false
is_long (c ∷ d ∷ more) = d == code "-"

-- letters follow a hyphen, unless a value is to come
abbrev pub hyphen_met : Option ℕ → Values → Text → Result Values Refused
hyphen_met (Some letter) v word = Err (NoValue letter)
hyphen_met None v word =
    if is_long word then Err (Long word) else letters_met v (drop 1 (chars word))

abbrev pub word_met : Values → Text → Result Values Refused
word_met v word = if is_plain word then Ok (none_waits v) else hyphen_met v.waiting v word

-- at the end, and before `--`, no letter may wait
abbrev pub end_met : Option ℕ → Refused
end_met (Some letter) = NoValue letter
end_met None = Words

-- why a word is bad, or what follows it
abbrev pub refused_or : Result Values Refused → (Values → Refused) → Refused
refused_or (Ok v) next = next v
refused_or (Err refused) next = refused

abbrev pub first_bad : Values → List Text → Refused
first_bad v [] = end_met v.waiting
first_bad v (word ∷ words) =
    if bytes_eq word (codes "--") then end_met v.waiting
    else refused_or (word_met v word) (λ after. first_bad after words)

-- the word that requests help of other programs
abbrev pub is_help : Refused → Bool
is_help (Long word) = bytes_eq word (codes "--help")
is_help refused = false

-- on a line without the letter of a command that is what lacks then. The first of the words is the program's
-- name
abbrev pub bad_word : List Text → Refused
bad_word words =
    let refused = first_bad no_values (drop 1 words) in
    if is_help refused && not (asks_in words) then Help else refused
