-- What a clause reads of a store that fails one call.
use Rattle.std.specs.Prelude.{◌≡◌, ℕ, ◌+◌}
use Rattle.cdb_store.specs.declared.fuse.FuseStore.{FuseStore}
use Rattle.cdb_store.specs.Fuse.{Blows, blown, capped}

-- the store under it
abbrev pub inner_of : {S : Type 0} → FuseStore S → S
inner_of f = f.inner

-- so many calls it passes, and of the write that it fails so many bytes
abbrev pub limit_of : {S : Type 0} → FuseStore S → ℕ
limit_of f = f.limit

abbrev pub part_of : {S : Type 0} → FuseStore S → ℕ
part_of f = f.part

-- the number of calls that counted so far, and how many bytes
abbrev pub calls_of : {S : Type 0} → FuseStore S → ℕ
calls_of f = f.calls

abbrev pub counted_by : {S : Type 0} → FuseStore S → ℕ
counted_by f = f.written

-- how often it has failed, by the failures of the inner store
abbrev pub failures_of : {S : Type 0} → (S → ℕ) → FuseStore S → ℕ
failures_of inner f = inner f.inner + blown f.calls f.limit

-- the next call that counts is the one that it fails
abbrev pub IsLast : {S : Type 0} → FuseStore S → Type 0
IsLast f = Blows f.calls f.limit

-- the call was counted, and the fuse is else the same
pub record IsCounted {S : Type 0} (old new : FuseStore S) : Type 0 where
  pub calls : new.calls ≡ capped (old.calls + 1)
  pub limit : new.limit ≡ old.limit
  pub part : new.part ≡ old.part
