-- How many newlines the first bytes have.
use Rattle.std.proofs.Common.{ℕ, ◌+◌, ◌<◌, ◌≤◌, ◌==◌, Bool, true, false, List, length, take, drop, get_or, cond, ◌≡◌, ◌∙◌, ap, arith, refl, sym}
use mir.Val.{bool_byte}
use Rattle.std.proofs.lemmas.List.{drop-take, length-take-le, take-take}
use Rattle.std.proofs.lemmas.List.Filters.{length-filter_more}
use Rattle.std.proofs.lemmas.List.Sums.{count_by-le-length, length-filter, sum_by-take-drop}
use Rattle.cdb_form.specs.Text.Map.{is_newline}
use Rattle.cdb_show.specs.Lines.{newlines}

byte_is : (b : Bool) → bool_byte b ≡ cond b 1 0
byte_is true = refl
byte_is false = refl

pub byte_small : (b : Bool) → bool_byte b ≤ 1
byte_small true = omega arith
byte_small false = omega arith

-- one more byte
pub newlines_more : (bytes : List ℕ) (i : ℕ) → i < length bytes → newlines (take (i + 1) bytes) ≡ newlines (take i bytes) + bool_byte (get_or bytes i 0 == 10)
newlines_more bytes i lt =
    sym (length-filter is_newline (take (i + 1) bytes)) ∙ length-filter_more is_newline bytes i 0 lt
    ∙ ap (λ (n : ℕ). n + cond (is_newline (get_or bytes i 0)) 1 0) (length-filter is_newline (take i bytes))
    ∙ ap (λ (n : ℕ). newlines (take i bytes) + n) (sym (byte_is (get_or bytes i 0 == 10)))

-- they are no more than the bytes
pub newlines_few : (bytes : List ℕ) (i : ℕ) → i ≤ length bytes → newlines (take i bytes) ≤ i
newlines_few bytes i le =
    let few = count_by-le-length is_newline (take i bytes) in
    let all = length-take-le i bytes le in
    omega (arith, few, all)

-- some more bytes
pub newlines_behind : (bytes : List ℕ) (at n : ℕ) → newlines (take at bytes) + newlines (take n (drop at bytes)) ≡ newlines (take (at + n) bytes)
newlines_behind bytes at n =
    ap (λ b. newlines b + newlines (take n (drop at bytes))) (sym (take-take at (at + n) bytes (omega arith)))
    ∙ ap (λ b. newlines (take at (take (at + n) bytes)) + newlines b) (sym (drop-take at n bytes))
    ∙ sum_by-take-drop (λ x. cond (is_newline x) 1 0) (take (at + n) bytes) at
