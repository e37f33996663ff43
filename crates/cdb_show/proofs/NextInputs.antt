-- An input before any of its items.
use Rattle.cdb_show.proofs.Words.{BeginsWithItems, IfSome, InputForm, List, None, Option, Some, [], map_lines, refl, ℕ}
use Rattle.cdb_show.specs.Runs.Inputs as form
use Rattle.cdb_command.specs.declared.style.Style.TheVariants as style

-- each text begins with no items
pub begins_none : (st : InputForm) (g : ℕ) (input : Option (List ℕ)) → IfSome input (BeginsWithItems st g [])
begins_none st g None = tt
begins_none (form.Puts style.Native) g (Some text) = ([], refl, (text, refl))
begins_none (form.Puts style.Map) g (Some text) = ([], refl, (map_lines text, refl))
begins_none form.Changes g (Some text) = (text, refl)
begins_none form.Lists g (Some text) = ([], refl, (text, refl))
