-- What reading leaves of a store.
use Rattle.std.specs.Prelude.{ℕ, ◌≡◌, ◌≤◌, List}
use Rattle.cdb_store.specs.declared.store.Store.{Ghosts}

-- a store was read and nothing else: its images are fewer or the same
pub record OnlyReads {S : Type 0} (s : Ghosts S) (old new : S) : Type 0 where
  pub images : (b : List ℕ) → s.image new b → s.image old b
  pub size : s.size new ≡ s.size old
  pub written : s.written new ≡ s.written old
  pub room : s.room old ≤ s.room new
  pub failures : s.failures old ≤ s.failures new
  pub unwritten : s.unwritten old ≤ s.unwritten new
