-- What a flush does to the answer of a run.
use Rattle.std.specs.Prelude.{List, ℕ, ◌≡◌, ◌⊎◌, ⊤, Option, Result, Ok, Err, IsOk}
use Rattle.std.specs.Io.KnownBytes.{Keeps}
use Rattle.cdb_show.specs.declared.fault.Fault.{Fault}
use Rattle.cdb_show.specs.declared.fault.Fault.TheVariants.{Missing, Output}

-- the writer was flushed, so it holds what it held; the answer stays, or is `Output` in place of Ok
pub record Flushed (old new : Option (List ℕ)) (answer result : Result Unit Fault) : Type 0 where
  pub kept : Keeps old new
  pub answered : (result ≡ answer) ⊎ (IsOk answer × (result ≡ Err Output))

-- an answer that follows the whole text: some of its keys may have no value
abbrev pub IsWhole : Result Unit Fault → Type 0
IsWhole (Ok done) = ⊤
IsWhole (Err Missing) = ⊤
IsWhole (Err fault) = ⊥

-- the writer was flushed; the answer stays, or is `Output` in place of one that follows the whole text
pub record FlushedWhole (old new : Option (List ℕ)) (answer result : Result Unit Fault) : Type 0 where
  pub kept : Keeps old new
  pub answered : (result ≡ answer) ⊎ (IsWhole answer × (result ≡ Err Output))
