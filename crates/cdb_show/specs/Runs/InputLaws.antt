-- What was read of the bytes of an input, or a fault of its text: the function of its bytes says the same.
use Rattle.std.proofs.Common.{◌≡◌, ℕ, List, [], ◌++◌, map, sym, ap, subst, ◌∙◌, Ok, Err}
use Rattle.std.proofs.lemmas.List.{map-append}
use Rattle.cdb_show.specs.Feed as fed
use Rattle.cdb_command.specs.declared.style.Style.TheVariants.{Native, Map}
use Rattle.cdb_form.specs.Format.{AreBytes}
use Rattle.cdb_form.specs.Text.Parse.{Change, Putting, SpellsChange, SpellsKey, Parsed}
use Rattle.cdb_form.specs.Text.Native.{Spells}
use Rattle.cdb_form.specs.Views.TextFault.{IsOfText}
use Rattle.cdb_form.specs.declared.text.fault.TextFault.{TextFault}
use Rattle.cdb_form.proofs.Bytes.ByteLemmas.{AreBytes-nil}
use Rattle.cdb_form.proofs.NativeTexts.Parsing.{native_is, native_fault_is, native_begins, amending_is, amending_fault_is, amending_begins, list_is, list_fault_is, list_begins, bytes_left}
use Rattle.cdb_show.specs.Runs.Given.{input_parsed}
use Rattle.cdb_show.specs.Runs.Inputs.{InputForm, Puts, Changes, Lists, HasFaults, IsInputOf, BeginsWithItems, HasItemFault}

-- it is what the function says
pub text_input : (f : InputForm) (g : ℕ) (items : List Change) (input rest : List ℕ)
    → AreBytes input → IsInputOf f g items input rest
    → (input_parsed f g input ≡ record { items = items; ends = Ok rest }) × AreBytes rest
text_input (Puts Native) g items input rest are (records, is, reads) = (
  native_is g input records rest are reads ∙ ap (λ xs. let p : Parsed = record { items = xs; ends = Ok rest } in p) (sym is),
  bytes_left Spells g records input rest reads are,
)
text_input (Puts Map) g items input rest are (records, is, (lines, ends)) = (
  ap (λ rs. let p : Parsed = record { items = map Putting rs; ends = Ok [] } in p) lines ∙ ap (λ xs. let p : Parsed = record { items = xs; ends = Ok [] } in p) (sym is) ∙ ap (λ r. let p : Parsed = record { items = items; ends = Ok r } in p) (sym ends),
  subst AreBytes (sym ends) AreBytes-nil,
)
text_input Changes g items input rest are reads = (amending_is g input items rest are reads, bytes_left SpellsChange g items input rest reads are)
text_input Lists g items input rest are (listing, is, reads) = (
  list_is g input listing rest are reads ∙ ap (λ xs. let p : Parsed = record { items = xs; ends = Ok rest } in p) (sym is),
  bytes_left SpellsKey g listing input rest reads are,
)

-- and begins so
pub text_begins : (f : InputForm) (g : ℕ) (items : List Change) (input : List ℕ) → AreBytes input
    → BeginsWithItems f g items input
    → (more : List Change) × ((input_parsed f g input).items ≡ items ++ more)
text_begins (Puts Native) g items input are (records, is, (rest, spelled)) =
    let h = native_begins g input records rest are spelled in
    (h.0, h.1 ∙ ap (λ xs. xs ++ h.0) (sym is))
text_begins (Puts Map) g items input are (records, is, (more, lines)) =
    (map Putting more, ap (map Putting) lines ∙ map-append Putting records more ∙ ap (λ xs. xs ++ map Putting more) (sym is))
text_begins Changes g items input are (rest, spelled) = amending_begins g input items rest are spelled
text_begins Lists g items input are (listing, is, (rest, spelled)) =
    let h = list_begins g input listing rest are spelled in
    (h.0, h.1 ∙ ap (λ xs. xs ++ h.0) (sym is))

-- a text of this form has this fault
pub text_fails : (f : InputForm) (g : ℕ) (items : List Change) (input : List ℕ) (fault : TextFault)
    → HasFaults f → IsOfText fault → AreBytes input → HasItemFault f g items fault input
    → input_parsed f g input ≡ record { items = items; ends = Err fault }
text_fails (Puts Native) g items input fault may is are (records, same, has) =
    let h = has.of_text is in
    native_fault_is g input records h.rest fault are h.whole is h.has ∙ ap (λ xs. let p : Parsed = record { items = xs; ends = Err fault } in p) (sym same)
text_fails (Puts Map) g items input fault may is are h = absurd may
text_fails Changes g items input fault may is are has = let h = has.of_text is in amending_fault_is g input items h.rest fault are h.whole is h.has
text_fails Lists g items input fault may is are (listing, same, has) =
    let h = has.of_text is in
    list_fault_is g input listing h.rest fault are h.whole is h.has ∙ ap (λ xs. let p : Parsed = record { items = xs; ends = Err fault } in p) (sym same)

-- the same, as a parser of its bytes

abbrev fed_parsed : Parsed → fed.Parsed Change TextFault
fed_parsed p = record { items = p.items; ends = p.ends }

pub is_read : (f : InputForm) (g : ℕ) (items : List Change) (input rest : List ℕ) → AreBytes input
    → IsInputOf f g items input rest
    → (fed_parsed (input_parsed f g input) ≡ record { items = items; ends = Ok rest }) × AreBytes rest
is_read f g items input rest are h = let is = text_input f g items input rest are h in (ap fed_parsed is.0, is.1)

pub is_fault : (f : InputForm) (g : ℕ) (items : List Change) (fault : TextFault) (input : List ℕ)
    → AreBytes input → HasFaults f × IsOfText fault × HasItemFault f g items fault input
    → fed_parsed (input_parsed f g input) ≡ record { items = items; ends = Err fault }
is_fault f g items fault input are (may, is, has) = ap fed_parsed (text_fails f g items input fault may is are has)
