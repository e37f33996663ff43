-- Numerals that are written digit by digit.
use Rattle.std.proofs.Common.{◌≡◌, ℕ, ◌+◌, ◌/◌, ◌%◌, ◌^◌, ◌<◌, ◌≤◌, List, [], ◌∷◌, ◌++◌, ap, sym, ◌∙◌, append_assoc, decimal}
use Rattle.std.proofs.lemmas.Fmt.{decimal_digit, decimal_step}

-- one digit is the numeral
pub one_digit : (n : ℕ) (text front : List ℕ) → n < 10 → text ≡ front ++ ((48 + n) ∷ []) → text ≡ front ++ decimal n
one_digit n text front low written = written ∙ ap (λ t. front ++ t) (sym (decimal_digit n low))

-- the last digit follows the numeral of the other digits
pub last_digit : (n : ℕ) (text mid front : List ℕ) → 10 ≤ n → n < 2 ^ 64 → text ≡ mid ++ ((48 + n % 10) ∷ []) → mid ≡ front ++ decimal (n / 10) → text ≡ front ++ decimal n
last_digit n text mid front some fits last others =
    last ∙ ap (λ t. t ++ ((48 + n % 10) ∷ [])) others ∙ append_assoc front (decimal (n / 10)) ((48 + n % 10) ∷ []) ∙ ap (λ t. front ++ t) (sym (decimal_step n some fits))
