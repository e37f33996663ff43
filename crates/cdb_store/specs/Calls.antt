-- What the calls on a file answered, and what that says of its bytes. The newest call comes first.
use Rattle.std.specs.Prelude.{◌≡◌, ℕ, ◌+◌, ◌≤◌, ◌<◌, ◌⊎◌, max, Bool, true, false, List, [], ◌∷◌}
use Rattle.std.specs.Prelude.{length, take, ◌++◌, zero, suc}
use Rattle.cdb_store.specs.declared.trace.Call.{Call}
use Rattle.cdb_store.specs.declared.trace.Call.TheVariants.{Made, Read, Gave, Wrote, NotWritten}
use Rattle.cdb_store.specs.declared.trace.Call.TheVariants.{Length, Cut, NotCut, Synced, NotSynced}
use Rattle.cdb_store.specs.declared.trace.Call.TheVariants.{Interrupted, Failed, Refused, Lost}
use Rattle.cdb_store.specs.declared.raw.RawFault.{RawFault}
use Rattle.cdb_store.specs.declared.raw.RawFault.TheVariants.{Interrupted as WasInterrupted}
use Rattle.cdb_store.specs.declared.raw.RawFault.TheVariants.{Failed as HasFailed}
use Rattle.cdb_store.specs.Images.{overwrite, part, Torn, SameImages}

-- the calls, each with its bytes
abbrev pub Calls : Type 0
Calls = List (Call × List ℕ)

-- the byte lists that agree with the calls; a file that was there before may hold any
abbrev pub Agrees : Calls → List ℕ → Type 0
Agrees [] b = Unit {0}
Agrees ((Made, bytes) ∷ calls) b = b ≡ []
Agrees ((Gave pos, bytes) ∷ calls) b = Agrees calls b × (part pos (length bytes) b ≡ bytes)
Agrees ((Wrote pos, bytes) ∷ calls) b =
    (a : List ℕ) × Agrees calls a × (pos ≤ length a) × (b ≡ overwrite a pos bytes)
Agrees ((NotWritten pos n, bytes) ∷ calls) b =
    (a : List ℕ) × Agrees calls a × (length a ≤ length b) × Torn pos n a b
Agrees ((Length n, bytes) ∷ calls) b = Agrees calls b × (n ≤ length b)
Agrees ((Cut n, bytes) ∷ calls) b = (a : List ℕ) × Agrees calls a × (b ≡ take n a)
Agrees ((NotCut n, bytes) ∷ calls) b =
    (a : List ℕ) × (m : ℕ) × Agrees calls a × (n ≤ m) × (b ≡ take m a)
Agrees ((Lost, bytes) ∷ []) b = Unit {0}
Agrees ((Lost, bytes) ∷ (untold ∷ calls)) b = Agrees calls b
Agrees ((Read pos, bytes) ∷ calls) b = Agrees calls b
Agrees ((Synced, bytes) ∷ calls) b = Agrees calls b
Agrees ((NotSynced, bytes) ∷ calls) b = Agrees calls b
Agrees ((Interrupted, bytes) ∷ calls) b = Agrees calls b
Agrees ((Failed, bytes) ∷ calls) b = Agrees calls b
Agrees ((Refused, bytes) ∷ calls) b = Agrees calls b

-- the number of calls that failed; one that a signal interrupted is made again
abbrev pub failure_count : Calls → ℕ
failure_count [] = 0
failure_count ((NotWritten pos n, bytes) ∷ calls) = failure_count calls + 1
failure_count ((NotCut n, bytes) ∷ calls) = failure_count calls + 1
failure_count ((NotSynced, bytes) ∷ calls) = failure_count calls + 1
failure_count ((Failed, bytes) ∷ calls) = failure_count calls + 1
failure_count ((Refused, bytes) ∷ calls) = failure_count calls + 1
failure_count ((_, bytes) ∷ calls) = failure_count calls

-- how often syncing it failed; what was to be synced may be gone then
abbrev pub failed_syncs : Calls → ℕ
failed_syncs [] = 0
failed_syncs ((NotSynced, bytes) ∷ calls) = failed_syncs calls + 1
failed_syncs ((_, bytes) ∷ calls) = failed_syncs calls

-- nothing was made, written or cut since the file was opened or synced, and no call failed; and no
-- sync of it ever failed
abbrev pub IsSynced : Calls → Type 0
IsSynced [] = Unit {0}
IsSynced ((Synced, bytes) ∷ calls) = failed_syncs calls ≡ 0
IsSynced ((Read pos, bytes) ∷ calls) = IsSynced calls
IsSynced ((Gave pos, bytes) ∷ calls) = IsSynced calls
IsSynced ((Length n, bytes) ∷ calls) = IsSynced calls
IsSynced ((Interrupted, bytes) ∷ calls) = IsSynced calls
IsSynced ((Refused, bytes) ∷ calls) = IsSynced calls
IsSynced ((Lost, bytes) ∷ calls) = IsSynced calls
IsSynced ((_, bytes) ∷ calls) = ⊥

-- the number of bytes that were written
abbrev pub written_count : Calls → ℕ
written_count [] = 0
written_count ((Wrote pos, bytes) ∷ calls) = written_count calls + length bytes
written_count ((_, bytes) ∷ calls) = written_count calls

-- true if its length isn't known any more
abbrev pub lost : Calls → Bool
lost [] = false
lost ((Lost, bytes) ∷ calls) = true
lost ((_, bytes) ∷ calls) = lost calls

-- so many calls in a row were interrupted
unfoldable pub interrupted : ℕ → Calls → Calls
interrupted zero calls = calls
interrupted (suc k) calls = (Interrupted, []) ∷ interrupted k calls

-- 1001 calls in a row were interrupted
pub record GivenUp (calls : Calls) : Type 0 where
  pub before : Calls
  pub interrupts : calls ≡ interrupted 1001 before

-- it was called until it answered this, after at most 1000 calls that were interrupted
pub record Asked (answer : Call × List ℕ) (old new : Calls) : Type 0 where
  pub times : ℕ
  pub at_most : times ≤ 1000
  pub calls : new ≡ answer ∷ interrupted times old

-- it was called in vain: it failed, or 1001 calls in a row were interrupted
abbrev pub AskedInVain : (failed given_up : Call) (old new : Calls) → Type 0
AskedInVain failed given_up old new =
    Asked (failed, []) old new ⊎ (new ≡ (given_up, []) ∷ interrupted 1001 old)

-- these bytes from pos on came last, in one piece or more
abbrev pub Came : ℕ → List ℕ → Calls → Type 0
Came pos bytes [] = bytes ≡ []
Came pos bytes ((Interrupted, none) ∷ calls) = Came pos bytes calls
Came pos bytes ((Read next, piece) ∷ calls) =
    (bytes ≡ [])
    ⊎ ((first : List ℕ) × Came pos first calls × (next ≡ pos + length first)
    × (bytes ≡ first ++ piece))
Came pos bytes (_ ∷ calls) = bytes ≡ []

-- its newest answer is no length from least to most
abbrev pub IsUntold : ℕ → ℕ → Calls → Type 0
IsUntold least most ((Length n, bytes) ∷ calls) = (n < least) ⊎ (most < n)
IsUntold least most ((Failed, bytes) ∷ calls) = Unit {0}
IsUntold least most _ = ⊥

-- what a call that a fault ended is noted as
abbrev pub ended : Call → RawFault → Call
ended other WasInterrupted = Interrupted
ended other HasFailed = other

-- the images of a file of this length: the first bytes of what agrees with the calls
abbrev pub FileImage : ℕ → Calls → List ℕ → Type 0
FileImage len calls b = (a : List ℕ) × Agrees calls a × (len ≤ length a) × (b ≡ take len a)

-- what agrees with the calls has at least so many bytes
pub record AreAtLeast (len : ℕ) (calls : Calls) : Type 0 where
  pub each : (b : List ℕ) → Agrees calls b → len ≤ length b

-- what agrees has the bytes written from pos on, and is else what it was
pub record AfterPut (pos : ℕ) (bytes : List ℕ) (old new : Calls) : Type 0 where
  pub no_other : (b : List ℕ) → Agrees new b
      → (a : List ℕ) × Agrees old a × (pos ≤ length a) × (b ≡ overwrite a pos bytes)
  pub none_lost : (a : List ℕ) → Agrees old a → pos ≤ length a → Agrees new (overwrite a pos bytes)

-- what agrees may have any bytes in the range, and is else what it was; it has got no shorter
pub record AfterTornPut (pos n : ℕ) (old new : Calls) : Type 0 where
  pub no_other : (b : List ℕ) → Agrees new b
      → (a : List ℕ) × Agrees old a × (length a ≤ length b) × Torn pos n a b
  pub none_lost : (a : List ℕ) → Agrees old a → pos ≤ length a
      → (b : List ℕ) × Agrees new b × (max (length a) (pos + n) ≤ length b) × Torn pos n a b

-- the same byte lists agree, no byte was written, and no sync failed
pub record Untouched (old new : Calls) : Type 0 where
  pub same : SameImages (Agrees old) (Agrees new)
  pub syncs : failed_syncs new ≡ failed_syncs old
  pub written : written_count new ≡ written_count old
  pub later : failure_count old ≤ failure_count new
  pub known : lost new ≡ lost old

-- its length was requested, and it reported no length from least to most
pub record IsLost (least most : ℕ) (old new : Calls) : Type 0 where
  pub answer : Call × List ℕ
  pub untold : IsUntold least most (answer ∷ old)
  pub calls : new ≡ (Lost, []) ∷ (answer ∷ old)

-- it has just reported this length, one from least to most
abbrev pub HasTold : (least most now : ℕ) → Calls → Type 0
HasTold least most now calls =
    (before : Calls) × (calls ≡ (Length now, []) ∷ before) × (least ≤ now) × (now ≤ most)

-- its length was lost before, or was lost now since it reported no length from least to most
abbrev pub IsUnmeasured : (least most : ℕ) (old calls : Calls) → Type 0
IsUnmeasured least most old calls =
    (lost old ≡ true) ⊎ ((before : Calls) × IsLost least most before calls)

-- the length after a failed call: the one that the file has reported, or the one before
abbrev pub IsMeasured : (least most before now : ℕ) (old calls : Calls) → Type 0
IsMeasured least most before now old calls =
    HasTold least most now calls ⊎ (IsUnmeasured least most old calls × (now ≡ before))
