-- Which entries are in chains after a call, and how much room the chains have.
use Rattle.std.specs.Prelude.{ℕ, ◌≡◌, ◌+◌, ◌-◌, ◌^◌, ◌<◌, ◌≤◌, min, length, vec_capacity}
use Rattle.cdb_make.specs.declared.chains.Chains.{Chains}

-- if there was room for so many entries, all these are in chains
abbrev pub LinksIfRoom : ℕ → Chains → Chains → Type 0
LinksIfRoom count old new = count ≤ 2 ^ 32 - 1 → count ≤ vec_capacity old.before → count ≤ vec_capacity old.heads
    → length new.before.items ≡ count

-- entry n is put into its chain if it is the next one, and there is room for it
abbrev pub LinksNext : ℕ → Chains → Chains → Type 0
LinksNext n old new = n ≡ length old.before.items → n < length old.heads.items → n < vec_capacity old.before
    → length new.before.items ≡ n + 1

-- there is room for none, so the chains take no memory
abbrev pub HasNoRoom : Chains → Type 0
HasNoRoom c = (vec_capacity c.heads ≡ 0) × (vec_capacity c.before ≡ 0)

-- there is room for so many entries, or for as many as can be in chains
abbrev pub HasRoomFor : ℕ → Chains → Type 0
HasRoomFor count c = min count (2 ^ 32 - 1) ≤ min (vec_capacity c.before) (vec_capacity c.heads)
