-- What the reader of a text of either form answered.
use Rattle.cdb_form.proofs.Words.{FailsEntry, FailsIn, FailsItem, Feed, FormReader, KeyValue, Leaves, List, None, Option, Putting, Record, Some, Spells, SpellsChange, TextFault, refl, ℕ, ◌≢◌}
use Rattle.std.specs.Option.{is_some}
use Rattle.std.specs.Prelude.{Bool, MatchBool, MatchOption, false, true}
use Rattle.cdb_form.specs.Views.FormReader.{Fails, FailsAs, GivesEnd, GivesItem, HasFailed}
use Rattle.cdb_form.specs.Views.Pairs.{change_in, key_value}
use Rattle.cdb_form.specs.declared.item.ItemKind.{ItemKind}
use Rattle.cdb_form.specs.declared.item.ItemKind.TheVariants.{Put, Remove}
use Rattle.cdb_form.proofs.NativeTexts.Stops.{met}

fails_with : {R L X : Type 0} (S : ℕ → List ℕ → X → Type 0) (g : ℕ) (feed : R → Feed) (old new : FormReader R L) (f : TextFault) → HasFailed new f
    → FailsIn feed old.source new.source (FailsItem S g old.source.taken) f → Leaves feed old.source new.source f → Fails S g feed old new f
fails_with S g feed old new f failed fails leaves = record {
  failed = failed;
  meets = λ going. record {
    of = met S g old.source.taken new.source.taken (feed old.source.reader) (feed new.source.reader) f fails;
    took = leaves.took;
    last = leaves.last;
    told = leaves.told;
    spends = leaves.spends;
  };
}

-- a fault of the parser
pub fails_as : {R L : Type 0} (removals : Bool) (g : ℕ) (feed : R → Feed) (old new : FormReader R L) (f : TextFault) → HasFailed new f
    → FailsIn feed old.source new.source (FailsEntry removals g old.source.taken) f → Leaves feed old.source new.source f → FailsAs removals g feed old new f
fails_as true g feed old new f failed fails leaves = fails_with SpellsChange g feed old new f failed fails leaves
fails_as false g feed old new f failed fails leaves = fails_with Spells g feed old new f failed fails leaves

-- a put of an amending text is a record of a native one
pub put_gives : {R L : Type 0} (g : ℕ) (feed : R → Feed) (old new : FormReader R L) (r : KeyValue) → GivesItem SpellsChange g feed old new (Putting r) → GivesItem Spells g feed old new r
put_gives g feed old new r h = record { reads = record { text = h.reads.text; spells = h.reads.spells; read = h.reads.read; counted = h.reads.counted }; going = h.going; fewer = h.fewer; spends = h.spends }

-- of a native text, which has puts alone
pub puts_found : {R L : Type 0} (g : ℕ) (feed : R → Feed) (old new : FormReader R L) (into : Record) (found : Option ItemKind) → found ≢ Some Remove
    → MatchOption found (GivesEnd feed old new) (λ kind. GivesItem SpellsChange g feed old new (change_in kind into)) → MatchBool (is_some found) (GivesItem Spells g feed old new (key_value into)) (GivesEnd feed old new)
puts_found g feed old new into None puts h = h
puts_found g feed old new into (Some Put) puts h = put_gives g feed old new (key_value into) h
puts_found g feed old new into (Some Remove) puts h = absurd (puts refl)
