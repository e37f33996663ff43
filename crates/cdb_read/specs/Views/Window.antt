-- What a window shows of a store.
use Rattle.std.specs.Prelude.{ℕ, ◌≡◌, ◌+◌, ◌≤◌, List, take}
use Rattle.cdb_store.specs.Images.{part}
use Rattle.cdb_read.specs.declared.window.Window.{Window}

-- it has no more bytes than it has room for, and each image has them at the place that it gives
pub record Shows (window : Window) (images : List ℕ → Type 0) : Type 0 where
  pub short : window.len ≤ 4096
  pub each : (b : List ℕ) → images b → part window.place window.len b ≡ take window.len window.bytes

-- n bytes from a place on are among them
pub record Covers (window : Window) (place n : ℕ) : Type 0 where
  pub from : window.place ≤ place
  pub to : place + n ≤ window.place + window.len
