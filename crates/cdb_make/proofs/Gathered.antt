-- One element among some, and what is said of it.
use Rattle.cdb_make.proofs.Words.{List, ap, arith, get_or, get_or-map, get_or-set_other, get_or-set_same, length, length-set, map, map-set, slice_set, ℕ, ◌<◌, ◌∙◌, ◌≡◌}

-- of one that took another's place, and of the others
pub told_here : {A B : Type 0} (f : A → B) (ls : List A) (n : ℕ) (x : A) (d : B) → n < length ls → get_or (map f (slice_set ls n x)) n d ≡ f x
told_here f ls n x d lt = get_or-map f (slice_set ls n x) n x d (omega (arith, length-set ls n x)) ∙ ap f (get_or-set_same ls n x x lt)

pub told_there : {A B : Type 0} (f : A → B) (ls : List A) (n k : ℕ) (x : A) (d : B) → (k ≡ n → ⊥) → get_or (map f (slice_set ls n x)) k d ≡ get_or (map f ls) k d
told_there f ls n k x d apart = ap (λ v. get_or v k d) (map-set f ls n x) ∙ get_or-set_other (map f ls) n k (f x) d apart
