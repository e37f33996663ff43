-- What a law of inputs says that they give, in the words of a run.
use Rattle.cdb_show.proofs.Words.{Change, Err, Fault, Given, InputForm, List, None, Ok, Option, Result, Some, TextFault, [], ap, given_from, refl, ℕ, ◌+◌, ◌∷◌, ◌≡◌}
use Rattle.cdb_show.specs.Feed as fed
use Rattle.cdb_show.specs.Runs.Given.{input_parsed, with_input}
use Rattle.cdb_show.specs.Runs.Parsing.{input_parsing}
use Rattle.cdb_show.specs.declared.fault.Fault.TheVariants.{Text}

abbrev faulty : Option (fed.NumberedFault TextFault) → Option Fault
faulty None = None
faulty (Some f) = Some (Text f.number f.fault)

abbrev pub said : fed.Given Change TextFault → Given
said given = record { items = given.items; fault = faulty given.fault }

same_with : (number : ℕ) (items : List Change) (ends : Result (List ℕ) TextFault) (one : List ℕ → fed.Given Change TextFault) (other : List ℕ → Given) → ((rest : List ℕ) → said (one rest) ≡ other rest) → said (fed.with_input number items ends one) ≡ with_input number items ends other
same_with number items (Ok rest) one other same = ap (λ (v : Given). let w : Given = record { items = items ∷ v.items; fault = v.fault } in w) (same rest)
same_with number items (Err fault) one other same = refl

pub same_given : (f : InputForm) (g number : ℕ) (inputs : List (Option (List ℕ))) (shared : List ℕ) → said (fed.given_from (input_parsing f g).parse number inputs shared) ≡ given_from f g number inputs shared
same_given f g number [] shared = refl
same_given f g number (Some input ∷ inputs) shared = same_with number (input_parsed f g input).items (input_parsed f g input).ends _ _ (λ rest. same_given f g (number + 1) inputs shared)
same_given f g number (None ∷ inputs) shared = same_with number (input_parsed f g shared).items (input_parsed f g shared).ends _ _ (λ rest. same_given f g (number + 1) inputs rest)
