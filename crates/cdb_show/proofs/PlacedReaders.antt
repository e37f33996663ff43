-- Readers that a run returns are in their places.
use Rattle.cdb_show.proofs.Words.{AreRead, CutShort, Feed, HasFault, InputReader, List, NoMore, NotBegun, Parsing, Stop, TakesOne, [], subst, sym, ℕ, ◌∷◌, ◌≡◌}
use Rattle.cdb_show.specs.declared.input_reader.InputReader.TheVariants.{Own, Shared}
use Rattle.cdb_show.specs.Views.Noted.{AreInPlace, ArePassed}

pub same_places : {R : Type 0} (readers : List (InputReader R)) → AreInPlace readers readers
same_places [] = tt
same_places (Own reader ∷ readers) = same_places readers
same_places (Shared ∷ readers) = same_places readers

pub all_passed : {R : Type 0} (before after : List (InputReader R)) → after ≡ before → AreInPlace before after
all_passed before after e = subst (AreInPlace before) (sym e) (same_places before)

module _ {R S : Type 0} (own : R → Feed) (shared : S → Feed) where
  one_placed : (P : List ℕ → List ℕ → Type 0) (reader left : InputReader R) (before after : List (InputReader R)) (old new : S) → TakesOne own shared P reader left old new → AreInPlace before after → AreInPlace (reader ∷ before) (left ∷ after)
  one_placed P (Own reader) (Own left) before after old new takes others = others
  one_placed P Shared Shared before after old new takes others = others
  one_placed P (Own reader) Shared before after old new takes others = absurd takes
  one_placed P Shared (Own left) before after old new takes others = absurd takes

  pub in_place : {Item F : Type 0} (p : Parsing Item F) (read : List (List Item)) (stop : Stop Item F) (before after : List (InputReader R)) (old new : S) → AreRead own shared p read stop before after old new → ArePassed read stop before after → AreInPlace before after
  in_place p [] NoMore before after old new are passed = all_passed before after passed
  in_place p [] NotBegun before after old new are passed = all_passed before after passed
  in_place p [] (HasFault items fault) (reader ∷ before) (left ∷ after) old new takes passed = one_placed (λ text rest. p.fails items fault text) reader left before after old new takes (all_passed before after passed)
  in_place p [] (CutShort items) (reader ∷ before) (left ∷ after) old new takes passed = one_placed (λ text rest. p.begins items text) reader left before after old new takes (all_passed before after passed)
  in_place p (items ∷ read) stop (reader ∷ before) (left ∷ after) old new (mid, takes, more) passed = one_placed (p.reads items) reader left before after old mid takes (in_place p read stop before after mid new more passed)
  in_place p [] (HasFault items fault) [] after old new takes passed = absurd takes
  in_place p [] (HasFault items fault) (reader ∷ before) [] old new takes passed = absurd takes
  in_place p [] (CutShort items) [] after old new takes passed = absurd takes
  in_place p [] (CutShort items) (reader ∷ before) [] old new takes passed = absurd takes
  in_place p (items ∷ read) stop [] after old new are passed = absurd are
  in_place p (items ∷ read) stop (reader ∷ before) [] old new are passed = absurd are
