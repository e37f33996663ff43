-- What a fuse does.
use Rattle.std.specs.Prelude.{◌≡◌, ℕ, ◌+◌, ◌<◌, ◌⊎◌, min, List, length, nat_lt, if◌then◌else◌}
use Rattle.cdb_store.specs.Images.{AfterWrite}

-- the call after so many that counted is the one that fails; a fuse of 2^64 - 1 calls fails none
abbrev pub Blows : (calls limit : ℕ) → Type 0
Blows calls limit = (calls ≡ limit) × (limit < 18446744073709551615)

-- the number of calls it has failed by itself
abbrev pub blown : (calls limit : ℕ) → ℕ
blown calls limit = if nat_lt limit calls then 1 else 0

-- a count that stops at 2^64 - 1
abbrev pub capped : ℕ → ℕ
capped n = min n 18446744073709551615

-- these bytes were written and counted, or none were counted since the inner store failed or was
-- refused memory
abbrev pub PartWritten : (pos : ℕ) (bytes : List ℕ) (old new : List ℕ → Type 0)
    (failed : ℕ × ℕ) (room : ℕ) (count : ℕ × ℕ) → Type 0
PartWritten pos bytes old new failed room count =
    (AfterWrite pos bytes old new × (count.1 ≡ capped (count.0 + length bytes)))
    ⊎ (((failed.0 < failed.1) ⊎ (room < pos + length bytes)) × (count.1 ≡ count.0))
