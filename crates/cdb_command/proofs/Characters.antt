-- The letter that was met, as a list; and the characters of a word, one after the other.
use Rattle.std.proofs.Common.{◌≡◌, ℕ, List, [], ◌∷◌, Option, None, Some, IsUtf8, chars, drop, length, refl}
use Rattle.std.proofs.lemmas.Str.{IsUtf8-past_char, chars_past_char, chars-nil}
use Rattle.std.specs.Str.Iter.{chars_rest, chars_steps}
use Rattle.std.specs.declared.str.Chars.{Chars}

abbrev pub held : {A : Type 0} → Option A → List A
held None = []
held (Some x) = x ∷ []

-- no bytes spell no characters
pub no_chars : (bytes : List ℕ) → length bytes ≡ 0 → chars bytes ≡ []
no_chars [] none = chars-nil
no_chars (b ∷ bytes) none = cc

-- the first character comes off, if there is one
pub first_off : (old new : Chars) (r : Option ℕ) → IsUtf8 (chars_rest old) → chars_steps old r new
    → IsUtf8 (chars_rest new) × (chars (chars_rest new) ≡ drop 1 (chars (chars_rest old)))
first_off old new None utf8 steps =
    let same : new ≡ old = steps.0.1 in
    let none : chars (chars_rest old) ≡ [] = no_chars (chars_rest old) steps.0.0 in
    (rw same utf8, rw (same, none) refl)
first_off old new (Some c) utf8 steps = (
  IsUtf8-past_char _ _ c utf8 steps.0,
  rw (chars_past_char _ _ c utf8 steps.0) refl,
)
