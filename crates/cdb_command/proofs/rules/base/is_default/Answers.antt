use Rattle.std.proofs.Math.Dec.{eqb}
use Rattle.std.proofs.Common.{rules, ◌≡◌, ◌≢◌, ◌∙◌, ◌++◌, ap, sym, List, ℕ, Bool, false, codes, bytes_eq, Some, None}
use Rattle.std.specs.Bool.{Decides}
use Rattle.std.proofs.lemmas.List.{append_cancel_right}
use Rattle.std.proofs.lemmas.Bool.Decides.{Decides-like, Decides-eqb, same_from_decides}
use Rattle.std.proofs.lemmas.Slice.Eq.{bytes_eq-Decides, slice_eq-Decides, strip_suffix_is}
use Rattle.cdb_command.proofs.rules.base.is_default.Goals as goal

abbrev ending : List ℕ
ending = codes ".tmp"

-- of two texts with the same ending, what comes before it decides
alike : (name front file : List ℕ) (r : Bool) → file ≡ front ++ ending → Decides r (front ≡ name)
    → r ≡ bytes_eq (name ++ ending) file
alike name front file r e d =
    same_from_decides r _
    (Decides-like r
    (λ same. ap (λ l. l ++ ending) (sym same) ∙ sym e)
    (λ same. append_cancel_right front name ending (sym (same ∙ e))) d)
    (bytes_eq-Decides (name ++ ending) file)

other : (name file : List ℕ) → ((front : List ℕ) → file ≢ front ++ ending)
    → false ≡ bytes_eq (name ++ ending) file
other name file none =
    same_from_decides false _ (λ h. cc, λ same. absurd (none name (sym same)))
    (bytes_eq-Decides (name ++ ending) file)

pub returns-in-Some : goal.returns-in-Some
returns-in-Some c =
    let file = c.as_bytes.result.now in
    alike c.args.name.now c.in-Some.front.now file _
    (strip_suffix_is {E = eqb} Decides-eqb file ending (Some c.in-Some.front) c.in-Some.ensures.cases)
    (slice_eq-Decides Decides-eqb c.in-Some.front.now _ _ (search rules))
    ∙ ap (bytes_eq (c.args.name.now ++ ending)) (search rules)

pub returns-in-None : goal.returns-in-None
returns-in-None c =
    let file = c.as_bytes.result.now in
    other c.args.name.now file
    (strip_suffix_is {E = eqb} Decides-eqb file ending None c.in-None.ensures.cases)
    ∙ ap (bytes_eq (c.args.name.now ++ ending)) (search rules)
