-- The items of some inputs as they come, and the bytes of the inputs.
use Rattle.cdb_form.specs.Format.{AreBytes}
use Rattle.cdb_form.specs.Text.Parse.{Change}
use Rattle.std.specs.Prelude.{ℕ, List, Option, Some, None, ⊤, ◌+◌, [], ◌∷◌, ◌++◌}

-- an item that comes, the number of its input, and its own there, each from 1 on
pub record Incoming : Type 0 where
  pub input : ℕ
  pub number : ℕ
  pub it : Change

-- the items of an input from a number on
abbrev pub from_input : ℕ → ℕ → List Change → List Incoming
from_input input number [] = []
from_input input number (c ∷ cs) =
    record { input = input; number = number; it = c } ∷ from_input input (number + 1) cs

-- the items of all inputs from one on
abbrev pub from_inputs : ℕ → List (List Change) → List Incoming
from_inputs input [] = []
from_inputs input (cs ∷ inputs) = from_input input 1 cs ++ from_inputs (input + 1) inputs

-- the items of some inputs, and then of one more, as they come
abbrev pub came : List (List Change) → List Change → List Incoming
came read last = from_inputs 1 (read ++ last ∷ [])

-- the inputs that have bytes of their own have bytes indeed
abbrev pub EachOfBytes : List (Option (List ℕ)) → Type 0
EachOfBytes [] = ⊤
EachOfBytes (None ∷ inputs) = EachOfBytes inputs
EachOfBytes (Some input ∷ inputs) = AreBytes input × EachOfBytes inputs
