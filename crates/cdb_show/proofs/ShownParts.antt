-- A line of parts, as they are shown.
use Rattle.std.proofs.Common.{◌≡◌, ◌++◌, ◌∷◌, [], ap, refl, ℕ, List, flat_map, map, codes, Bor}
use Rattle.cdb_command.specs.Refused.{parts_line, shown}

abbrev Part : Type 0
Part = Bor (List ℕ) × Bor (List ℕ)

abbrev Parts : Type 0
Parts = List Part

abbrev texts : Part → List ℕ × List ℕ
texts p = (p.0.now, p.1.now)

abbrev part : List ℕ × List ℕ → List ℕ
part p = p.0 ++ shown p.1

abbrev pub shown_part : Part → List ℕ
shown_part p = p.0.now ++ shown p.1.now

-- the parts, as they are shown
as_shown : (parts : Parts)
    → flat_map part (map texts parts) ≡ flat_map shown_part parts
as_shown [] = refl
as_shown (p ∷ parts) = ap (λ t. (p.0.now ++ shown p.1.now) ++ t) (as_shown parts)

pub line_of : (parts : Parts)
    → parts_line (map texts parts) ≡ codes "cdb: " ++ (flat_map shown_part parts ++ codes "\n")
line_of parts = ap (λ t. codes "cdb: " ++ (t ++ codes "\n")) (as_shown parts)
