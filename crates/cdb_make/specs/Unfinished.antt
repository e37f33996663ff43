-- The head of a database that is not finished.
use Rattle.std.specs.Prelude.{ℕ, ◌≡◌, List, replicate}
use Rattle.cdb_store.specs.Images.{part}
use Rattle.cdb_form.specs.Format.{head_size}

-- its bytes are all ones, so that each pointer names a table outside of any file
unfoldable pub unfinished_head : ℕ → List ℕ
unfinished_head w = replicate (head_size w) 255

-- every image has that head
pub record IsUnfinished (w : ℕ) (images : List ℕ → Type 0) : Type 0 where
  pub each : (b : List ℕ) → images b → part 0 (head_size w) b ≡ unfinished_head w
