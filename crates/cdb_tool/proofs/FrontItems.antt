-- What an input begins with, it begins with the first of.
use Rattle.std.proofs.Common.{◌≡◌, ◌++◌, ◌∷◌, ◌∙◌, ℕ, List, [], ap, append_assoc, drop, false, length, map, refl, subst, sym, take, true}
use Rattle.std.proofs.lemmas.List.{append-nil, take-append-drop, take-map, take_at}
use Rattle.std.specs.Prelude.{codes}
use Rattle.cdb_form.specs.Format.{KeyValue}
use Rattle.cdb_form.specs.Text.Form.{Spelled}
use Rattle.cdb_form.specs.Text.Native.{Spells}
use Rattle.cdb_form.specs.Text.Parse.{Change, Putting, SpellsChange}
use Rattle.cdb_show.specs.Runs.Inputs.{BeginsWithItems, IsInputOf}
use Rattle.cdb_show.specs.Views.ItemReader.{form_of}
use Rattle.cdb_show.specs.declared.runs.item_reader.ItemReader.{ItemReader}
use Rattle.cdb_show.specs.declared.runs.item_reader.ItemReader.TheVariants.{Form, Map}

spelled_front : {X : Type 0} (S : ℕ → List ℕ → X → Type 0) (g : ℕ) (xs ys : List X) (text rest : List ℕ) → Spelled S g (xs ++ ys) text rest → (mid : List ℕ) × Spelled S g xs text mid
spelled_front S g [] ys text rest so = (text, refl)
spelled_front S g (x ∷ xs) ys text rest (first, more, spells, is, so) =
    let front = spelled_front S g xs ys more rest so in
    (front.0, (first, more, spells, is, front.1))

puts_front : (kept later : List Change) (rs : List KeyValue) → kept ++ later ≡ map Putting rs → kept ≡ map Putting (take (length kept) rs)
puts_front kept later rs are = sym (take_at kept later (length kept) refl) ∙ ap (take (length kept)) are ∙ take-map Putting (length kept) rs

pub items_front : {F L : Type 0} (t : ItemReader F L) (g : ℕ) (kept later : List Change) (text : List ℕ) → BeginsWithItems (form_of t) g (kept ++ later) text → BeginsWithItems (form_of t) g kept text
items_front (Form t true) g kept later text (rest, so) = spelled_front SpellsChange g kept later text rest so
items_front (Form t false) g kept later text (rs, are, (rest, so)) =
    let n : ℕ = length kept in
    (take n rs, puts_front kept later rs are, spelled_front Spells g (take n rs) (drop n rs) text rest (subst (λ v. Spelled Spells g v text rest) (sym (take-append-drop n rs)) so))
items_front (Map t) g kept later text (rs, are, (more, so)) =
    let n : ℕ = length kept in
    (take n rs, puts_front kept later rs are, (drop n rs ++ more, so ∙ ap (λ v. v ++ more) (sym (take-append-drop n rs)) ∙ append_assoc (take n rs) (drop n rs) more))

-- a whole text begins with its items
pub whole_begins : {F L : Type 0} (t : ItemReader F L) (g : ℕ) (items : List Change) (text rest : List ℕ) → IsInputOf (form_of t) g items text rest → BeginsWithItems (form_of t) g items text
whole_begins (Form t true) g items text rest so = (codes "\n" ++ rest, so)
whole_begins (Form t false) g items text rest (rs, are, so) = (rs, are, (codes "\n" ++ rest, so))
whole_begins (Map t) g items text rest (rs, are, (so, none)) = (rs, are, ([], so ∙ sym (append-nil rs)))
