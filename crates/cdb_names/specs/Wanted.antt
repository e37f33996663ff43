-- The permission bits with which a file may get its name.
use Rattle.std.specs.Prelude.{◌≡◌, ◌≢◌, ◌⊎◌, ℕ, Option, None, Some, bit_and}
use Rattle.cdb_names.specs.declared.shown.Shown.{Shown}
use Rattle.cdb_names.specs.declared.wanted.Wanted.{Wanted}
use Rattle.cdb_names.specs.declared.wanted.Wanted.TheVariants.{Old, New}

-- the bits that are wanted
abbrev pub wanted_bits : Wanted → ℕ
wanted_bits (Old bits) = bits
wanted_bits (New bits) = bits

-- those of a file that this user alone may read and write
abbrev pub private_bits : ℕ
private_bits = 384

-- those that are requested for a plain new file, which all may read and write but for what the system takes
abbrev pub plain_bits : ℕ
plain_bits = 438

-- the bits that are wanted for a file of this user, where a regular file that is replaced, if there is one, shows
-- this: those of that file if it is of the same user, and else these
abbrev pub IsWanted : (held : Option Shown) → (user bits : ℕ) → Wanted → Type 0
IsWanted None user bits wanted = wanted ≡ New bits
IsWanted (Some old) user bits wanted =
    ((old.user ≡ user) × (wanted ≡ Old old.bits)) ⊎ ((old.user ≢ user) × (wanted ≡ New bits))

-- a file with these bits may get its name: they are those of the file that it replaces, or no others than a
-- plain new file gets
abbrev pub Suits : Wanted → (bits : ℕ) → Type 0
Suits (Old old) bits = bits ≡ old
Suits (New new) bits = bit_and bits new ≡ bits

-- the owner of a file with these bits may not write it
abbrev pub IsUnwritable : (bits : ℕ) → Type 0
IsUnwritable bits = bit_and bits 128 ≡ 0
