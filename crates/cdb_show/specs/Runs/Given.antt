-- What inputs say, one after the other: their items, and the fault of the one that ends them.
use Rattle.cdb_command.specs.declared.style.Style.TheVariants.{Map, Native}
use Rattle.cdb_form.specs.Text.Parse.{Change, parse, parse_list, parse_map, Parsed}
use Rattle.cdb_form.specs.declared.text.fault.TextFault.{TextFault}
use Rattle.cdb_show.specs.Runs.Inputs.{InputForm, Puts, Changes, Lists}
use Rattle.cdb_show.specs.declared.fault.Fault.{Fault}
use Rattle.cdb_show.specs.declared.fault.Fault.TheVariants.{Text}
use Rattle.std.specs.Prelude.{ℕ, List, true, false, Option, Err, Ok, Result, Some, None, ◌+◌, [], ◌∷◌}

-- what an input says
abbrev pub input_parsed : InputForm → (g : ℕ) → List ℕ → Parsed
input_parsed (Puts Native) g input = parse false g input
input_parsed (Puts Map) g input = parse_map input
input_parsed Changes g input = parse true g input
input_parsed Lists g input = parse_list g input

-- the items of each input, up to the first with a fault, and that fault
pub record Given : Type 0 where
  pub items : List (List Change)
  pub fault : Option Fault

-- one more input, and then those that its rest leads to; or its fault
abbrev pub with_input : (number : ℕ) → List Change → Result (List ℕ) TextFault → (List ℕ → Given)
    → Given
with_input number items (Ok rest) next =
    record { items = items ∷ (next rest).items; fault = (next rest).fault }
with_input number items (Err fault) next =
    record { items = items ∷ []; fault = Some (Text number fault) }

-- what inputs say: each has bytes of its own, or begins where the last one ended that has not
abbrev pub given_from : InputForm → (g number : ℕ) → List (Option (List ℕ)) → (shared : List ℕ)
    → Given
given_from form g number [] shared = record { items = []; fault = None }
given_from form g number (Some input ∷ inputs) shared =
    let parsed = input_parsed form g input in
    with_input number parsed.items parsed.ends (λ rest. given_from form g (number + 1) inputs shared)
given_from form g number (None ∷ inputs) shared =
    let parsed = input_parsed form g shared in
    with_input number parsed.items parsed.ends (λ rest. given_from form g (number + 1) inputs rest)
