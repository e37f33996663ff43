-- What is on a command line, its texts as bytes.
use Rattle.std.specs.Prelude.{ℕ, List, [], map, Option, option_map, unwrap_or}
use denote.Bor.{Bor}
use Rattle.cdb_command.specs.declared.letters.Flags.{Flags}
use Rattle.cdb_command.specs.declared.line.Line.{Line}

abbrev pub Text : Type 0
Text = List ℕ

-- the letters without a value, the values of `-n`, `-t` and `-b`, and the names
pub record Given : Type 0 where
  pub flags : Flags
  pub number : Option Text
  pub temporary : Option Text
  pub base : Option Text
  pub names : List Text

abbrev pub names_in : Option (Bor (List (Bor Text))) → List Text
names_in names = unwrap_or (option_map (λ s. map (λ v. v.now) s.now) names) []

abbrev pub given_in : Line → Given
given_in line = record {
  flags = line.flags;
  number = option_map (λ s. s.now) line.number;
  temporary = option_map (λ s. s.now) line.temporary;
  base = option_map (λ s. s.now) line.base;
  names = names_in line.names;
}
