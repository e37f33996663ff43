-- The records and items of the code are lists of bytes.
use Rattle.cdb_form.proofs.Words.{AllByRecursion, ChangeFits, IsRecord, List, Record, [], ℕ, ◌∷◌}
use Rattle.cdb_form.specs.Views.Pairs.{key_values, change_of, changes_of}
use Rattle.cdb_form.specs.declared.item.Item.{Item}
use Rattle.cdb_form.specs.declared.item.Item.TheVariants.{Put, Remove}
use Rattle.cdb_form.proofs.NativeTexts.TextLaws.{IsFitting}

pub are_records : (rs : List Record) → AllByRecursion IsRecord (key_values rs)
are_records [] = tt
are_records (r ∷ rs) = (record { key = r.key_bytes; value = r.value_bytes }, are_records rs)

is_fitting : (g : ℕ) (item : Item) → ChangeFits g (change_of item) → IsFitting g (change_of item)
is_fitting g (Put r) fit = (record { key = r.key_bytes; value = r.value_bytes }, fit)
is_fitting g (Remove key) fit = fit

pub are_fitting : (g : ℕ) (items : List Item) → AllByRecursion (ChangeFits g) (changes_of items) → AllByRecursion (IsFitting g) (changes_of items)
are_fitting g [] fit = tt
are_fitting g (item ∷ items) fit = (is_fitting g item fit.0, are_fitting g items fit.1)
