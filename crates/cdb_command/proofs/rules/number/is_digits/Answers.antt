use Rattle.std.proofs.Common.{rules, ◌≡◌, ◌∙◌, List, ℕ, refl, ap, [], ◌∷◌, tests, ◌&&◌}
use Rattle.std.specs.List.{list_all}
use Rattle.std.specs.Char.{is_ascii_digit}
use Rattle.std.specs.Str.{all_ascii_digits}
use Rattle.std.proofs.lemmas.Iterator.Search.{all_from_yields_List}
use Rattle.std.proofs.lemmas.Iterator.Adapters.{YieldsList-from_bytes}
use Rattle.cdb_command.proofs.rules.number.is_digits.Goals as goal

all_digits : (text : List ℕ) → list_all is_ascii_digit text ≡ all_ascii_digits text
all_digits [] = refl
all_digits (b ∷ text) = ap (λ t. is_ascii_digit b && t) (all_digits text)

pub returns : goal.returns
returns c =
    all_from_yields_List is_ascii_digit _ _ _ c.all.ensures.ran
    (YieldsList-from_bytes c.args.text.now cc) (λ _ _ _ k. search (rules, tests))
    ∙ all_digits c.args.text.now
