-- What a list of places holds.
use Rattle.std.specs.Prelude.{ℕ, ◌+◌, ◌*◌, ◌^◌, ◌==◌, min, cond, List, [], ◌∷◌, vec_capacity}
use Rattle.cdb_form.specs.declared.width.Width.{Ghosts as Widths}
use Rattle.cdb_make.specs.declared.places.Places.{Places}

-- numbers by their lower and their upper halves; one without an upper half has none
abbrev pub of_halves : List ℕ → List ℕ → List ℕ
of_halves [] highs = []
of_halves (low ∷ lows) [] = low ∷ of_halves lows []
of_halves (low ∷ lows) (high ∷ highs) = (low + high * 2 ^ 32) ∷ of_halves lows highs

-- the places
abbrev pub places_in : {L : Type 0} {w : Widths L} → Places L w → List ℕ
places_in p = of_halves p.lows.items p.highs.items

-- how many there can be before they take memory
abbrev pub places_room : {L : Type 0} {w : Widths L} → Places L w → ℕ
places_room {w = w} p =
    cond (w.WORD == 8) (min (vec_capacity p.lows) (vec_capacity p.highs)) (vec_capacity p.lows)
