-- Worked by hand: which bytes agree with what a reader gave, and what some inputs say.
use Rattle.std.proofs.Common.{◌≡◌, ℕ, List, [], ◌∷◌, refl, Some, None, Ok, Err, true, false, ◌==◌, if◌then◌else◌}
use Rattle.cdb_show.specs.Feed.{Continues, given_from, Parsed}

-- a reader gave two bytes and no end: all bytes that begin with these agree
begins_so : (rest : List ℕ) → Continues (1 ∷ 2 ∷ []) false (1 ∷ 2 ∷ rest) rest
begins_so rest = record { begins = refl; ends = λ e. absurd (let a : false ≡ true = e in cc) }

-- it gave its end too: they are all its bytes
only_these : (whole rest : List ℕ) → Continues (1 ∷ 2 ∷ []) true whole rest → whole ≡ 1 ∷ 2 ∷ []
only_these whole rest c = let e = c.begins in let none = c.ends refl in cc

-- a parser whose items are bytes: a text ends with a byte 0, or with the input, and a byte 255 is a fault
abbrev parse : List ℕ → Parsed ℕ ℕ
parse [] = record { items = []; ends = Ok [] }
parse (b ∷ bytes) =
    if b == 0 then record { items = []; ends = Ok bytes } else (
    if b == 255 then record { items = []; ends = Err 255 } else record { items = b ∷ (parse bytes).items; ends = (parse bytes).ends }
    )

-- an own input, the shared one twice, and a last one that is not reached, whatever its bytes are, nor are those that
-- the first input has after its text or the shared one after the fault
inputs_say : (own shared last : List ℕ)
    → given_from parse 1 (Some (1 ∷ 2 ∷ 0 ∷ own) ∷ None ∷ None ∷ Some last ∷ []) (3 ∷ 0 ∷ 4 ∷ 255 ∷ shared)
    ≡ record { items = (1 ∷ 2 ∷ []) ∷ (3 ∷ []) ∷ (4 ∷ []) ∷ []; fault = Some (record { number = 3; fault = 255 }) }
inputs_say own shared last = refl

-- the second text of the shared reader begins where the first one ended, and there is nothing at its end
shared_ends : given_from parse 1 (None ∷ None ∷ []) (7 ∷ []) ≡ record { items = (7 ∷ []) ∷ [] ∷ []; fault = None }
shared_ends = refl
