-- A check of a store in which no database was opened.
use Rattle.cdb_show.proofs.Words.{Ghosts, List, OpeningFails, ReadFault, Some, ap, head_size, length, read_fault, subst, sym, ℕ, ◌<◌, ◌∙◌, ◌≡◌}
use Rattle.std.specs.Prelude.{nat_lt}
use Rattle.std.proofs.lemmas.Bool.{cond-true, lt-ltb}
use Rattle.cdb_form.specs.declared.damage.Damage.TheVariants as damage
use Rattle.cdb_read.specs.Sound.{first_fault}
use Rattle.cdb_show.specs.Runs.Stats.{CheckingFails}
use Rattle.cdb_show.proofs.Openings.{unopened_by}

-- the first fault of a file that is shorter than a head
short_first : (w : ℕ) (b : List ℕ) → length b < head_size w → first_fault w b ≡ Some damage.Short
unfolding first_fault
short_first w b h = cond-true (nat_lt (length b) (head_size w)) _ _ (lt-ltb (length b) (head_size w) h)

pub opening_unchecked : {S : Type 0} (w : ℕ) (s : Ghosts S) (old new : S) (f : ReadFault) → ((b : List ℕ) → s.image new b → length b ≡ s.size new) → OpeningFails w s old new f → CheckingFails w s old new (read_fault f)
opening_unchecked w s old new f sized h = unopened_by w s old new (λ f. CheckingFails w s old new (read_fault f))
    (λ short same. record { short = short; unread = same; first = λ b is. short_first w b (subst (λ n. n < head_size w) (sym (sized b is ∙ ap s.size same)) short) }) (λ reads failed. failed) f h
