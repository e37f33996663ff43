-- What is known of the bytes of a reader, and what a call does to it. No clause names bytes before they come: it says
-- which bytes may have been left before, for any bytes that may be left now.
use Rattle.std.specs.Prelude.{◌≡◌, ℕ, List, [], ◌++◌, Option, Some, None, ⊤, Result}
use Rattle.std.proofs.Common.{sym, ◌∙◌}

-- Whether anything is known of a reader, and which bytes agree with it: all of them from the start, and those left.
-- And that it has failed: of a `Read` nobody knows it.
pub record Feed : Type 1 where
  pub known : Type 0
  pub may : (whole rest : List ℕ) → Type 0
  pub failed : Type 0

-- These bytes were taken: whatever may be left now may have been left before, after these. A failure stays.
pub record Consumes (old new : Feed) (bytes : List ℕ) : Type 0 where
  pub known : old.known → new.known
  pub back : old.known → (whole rest : List ℕ) → new.may whole rest → old.may whole (bytes ++ rest)
  pub stays : old.failed → new.failed

-- nothing was taken
abbrev pub Keeps : (old new : Feed) → Type 0
Keeps old new = Consumes old new []

-- What agreed before still agrees, if it goes on with these bytes, and has no others if the reader ended.
pub record StillAgrees (old new : Feed) (bytes : List ℕ) (Ended : Type 0) : Type 0 where
  pub on : (whole rest : List ℕ) → old.may whole (bytes ++ rest) → (Ended → rest ≡ []) → new.may whole rest

-- no bytes can be left
abbrev pub IsAtEnd : Feed → Type 0
IsAtEnd feed = feed.known → (whole rest : List ℕ) → feed.may whole rest → rest ≡ []

-- Whatever may be left now, a text of which P holds with it may have been left before.
pub record FromTo (old new : Feed) (P : (text rest : List ℕ) → Type 0) : Type 0 where
  pub known : old.known → new.known
  pub back : old.known → (whole rest : List ℕ) → new.may whole rest
      → (text : List ℕ) × old.may whole text × P text rest

-- the standard library says which bytes a reader has left
abbrev pub IsSome : Option (List ℕ) → Type 0
IsSome None = ⊥
IsSome (Some rest) = ⊤

-- what is known of a reader by the standard library alone
abbrev pub reader_feed : (remaining : Option (List ℕ)) → Feed
reader_feed remaining =
    record { known = IsSome remaining; may = λ whole rest. remaining ≡ Some rest; failed = ⊤ }

-- ---- That all bytes of a reader determine those that are left.

same_some : {xs ys : List ℕ} → ◌≡◌ {A = Option (List ℕ)} (Some xs) (Some ys) → xs ≡ ys
same_some e = cc

pub same_remaining : {remaining : Option (List ℕ)} {xs ys : List ℕ} → remaining ≡ Some xs
    → remaining ≡ Some ys → xs ≡ ys
same_remaining a b = same_some (sym a ∙ b)

-- ---- What a reader answers for good.

-- it gave the answer that it had given, and read nothing
abbrev pub Repeats : {T A E : Type 0} → Result A E → (old new : T) → Result A E → Type 0
Repeats answer old new result = (result ≡ answer) × (new ≡ old)
