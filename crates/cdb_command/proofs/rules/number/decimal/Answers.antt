use Rattle.std.proofs.Common.{rules, ◌≡◌, ℕ, ◌<◌, ◌^◌, List, [], ◌∷◌, length, true, Err, refl, arith}
use Rattle.std.proofs.lemmas.Bool.Decides.{nat_tests}
use Rattle.std.proofs.lemmas.Str.Parse.{IsNumeralModel, numerals_by_value, tells_all_ascii_digits, parse_digits}
use Rattle.std.specs.Str.{all_ascii_digits}
use Rattle.std.specs.Str.Parse.{digits_value, ParsesUnsigned}
use Rattle.cdb_command.specs.Rules.{value_number}
use Rattle.cdb_command.specs.Refused.{Number}
use Rattle.cdb_command.proofs.rules.number.decimal.Goals as goal

numerals : IsNumeralModel (λ text. all_ascii_digits text ≡ true) (digits_value 10)
numerals = numerals_by_value _ tells_all_ascii_digits

too_large : (word : List ℕ) (n : ℕ) → ¬ (n < 2 ^ 32) → value_number word n ≡ Err (Number word)
too_large word n large = grind (arith, nat_tests)

not_a_word : (word text : List ℕ) → ¬ ((0 < length text) × (digits_value 10 text < 2 ^ 32))
    → value_number word (digits_value 10 text) ≡ Err (Number word)
not_a_word word [] not = refl
not_a_word word (b ∷ text) not = too_large word (digits_value 10 (b ∷ text)) (λ small. not (search rules, small))

refused : {E : Type 0} (text : List ℕ) (e : E) → ParsesUnsigned 32 10 text (Err e)
    → all_ascii_digits text ≡ true → value_number text (digits_value 10 text) ≡ Err (Number text)
refused {E} text e parsed digits =
    not_a_word text text (parse_digits numerals {E = E} 32 text (Err e) parsed digits)

pub returns-in-Err : goal.returns-in-Err
returns-in-Err c =
    let digits : all_ascii_digits c.args.text.now ≡ true = search rules in
    let bad = refused c.args.text.now c.in-Err.field-0 c.in-Err.ensures.value.0 digits in
    search rules
