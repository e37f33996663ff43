-- What was written of bytes that a line shows.
use Rattle.std.specs.Prelude.{◌≡◌, ℕ, List, ◌++◌, Option, drop}
use Rattle.std.specs.Io.KnownBytes.{Appends}
use Rattle.cdb_command.specs.Refused.{shown}

-- the first so many of them were written as they are shown
pub record ShowsFirst (count : ℕ) (bytes : List ℕ) (old new : Option (List ℕ)) : Type 0 where
  pub text : List ℕ
  pub before : shown bytes ≡ text ++ shown (drop count bytes)
  pub written : Appends old new text
