-- What a source gave of a text, and how many requests it may still get.
use Rattle.std.specs.Prelude.{List, length, take, ◌*◌, ◌+◌, ◌≡◌, ◌≤◌, ℕ}
use Rattle.cdb_form.specs.Views.TextFault.{IsOfText, IsSpent}
use Rattle.cdb_form.specs.declared.text.fault.TextFault.{TextFault}
use Rattle.cdb_form.specs.declared.text.fault.TextFault.TheVariants.{Input}
use Rattle.cdb_form.specs.declared.text.source.Source.{Source}
use Rattle.cdb_form.specs.Views.Feed.{Feed, Consumes}

-- each byte that a source gave took at most 1001 requests
abbrev pub budget : {R : Type 0} → Source R → ℕ
budget s = s.asks + 1001 * s.taken

-- the bytes that a source has at hand, as many at most as it has requests left
abbrev pub at_hand : {R : Type 0} → (R → List ℕ) → Source R → List ℕ
at_hand held s = take s.asks (held s.reader)

-- a fault of the reader is one: it failed, or no request is left
pub record IsTold (new : Feed) (asks : ℕ) (fault : TextFault) : Type 0 where
  pub spent : IsSpent asks fault
  pub failed : fault ≡ Input → new.failed

-- these bytes were taken, and were counted
pub record Takes {R : Type 0} (feed : R → Feed) (old new : Source R) (bytes : List ℕ) : Type 0
  where
    pub read : Consumes (feed old.reader) (feed new.reader) bytes
    pub counted : new.taken ≡ old.taken + length bytes

-- What a fault leaves that is not one of the text: bytes with the property P were taken. Requests
-- suffice for 1001 a byte.
pub record LeavesAmid {R : Type 0} (P : List ℕ → Type 0) (feed : R → Feed) (old new : Source R)
    (f : TextFault) : Type 0 where
  pub outside : IsOfText f → ⊥
  pub bytes : List ℕ
  pub are : P bytes
  pub takes : Takes feed old new bytes
  pub told : IsTold (feed new.reader) new.asks f
  pub spends : budget old ≤ budget new + 1001
