-- A load from a reader that reports its bytes.
use Rattle.cdb_show.proofs.Words.{List, None, Option, Some, [], append-nil, reader_feed, refl, subst, sym, ℕ, ◌++◌, ◌∙◌, ◌≡◌}
use Rattle.std.specs.Prelude.{IfSome}
use Rattle.cdb_form.proofs.Fed.KnownReaders.{known_consumes, known_end}
use Rattle.cdb_form.specs.Views.Taking.{GivesAll}

-- all its bytes were taken
pub all_loaded : (most : ℕ) (old new : Option (List ℕ)) (bytes : List ℕ) → GivesAll most (reader_feed old) (reader_feed new) bytes → IfSome old (λ file. bytes ≡ file)
all_loaded most None new bytes h = tt
all_loaded most (Some file) None bytes h = elim (h.read.known tt) [ ]
all_loaded most (Some file) (Some rest) bytes h =
    let split : file ≡ bytes ++ rest = known_consumes (Some file) (Some rest) bytes h.read in
    let none : rest ≡ [] = known_end (Some rest) h.end in
    sym (append-nil bytes) ∙ subst (λ r. bytes ++ [] ≡ bytes ++ r) (sym none) refl ∙ sym split
