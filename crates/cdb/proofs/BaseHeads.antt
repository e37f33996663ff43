-- A base whose head was not read.
use Rattle.cdb.proofs.Words.{Err, Ghosts, List, OutputSays, [], ap, arith, inl, inr, length, refl, subst, sym, ℕ, ◌<◌, ◌∙◌, ◌∷◌, ◌≡◌}
use Rattle.cdb_form.specs.Format.{head_size}
use Rattle.cdb_read.specs.Views.Reads.{OpeningFails}
use Rattle.cdb_read.specs.declared.fault.ReadFault.{ReadFault}
use Rattle.cdb_read.specs.declared.fault.ReadFault.TheVariants.{Device, Short}
use Rattle.cdb_show.specs.Views.Fault.{read_fault}
use Rattle.cdb_store.proofs.Reading.{reads_nothing}
use Rattle.cdb_system.proofs.Coming.{short_is}
use Rattle.cdb.specs.Creating.{SeesHead}
use Rattle.cdb.specs.Reasons.{HasReason, store_reasons}

module _ {S : Type 0} (w : ℕ) (s : Ghosts S) (old new : S) where
  pub unseen : (fault : ReadFault) → ((b : List ℕ) → s.image new b → length b ≡ s.size new) → OpeningFails w s old new fault → SeesHead w s old new (Err (read_fault fault))
  unseen Short sized fails = record {
    reads = reads_nothing old new fails.1;
    ok = tt;
    err = inl (λ b is. short_is w b _ _ (subst (λ n. n < head_size w) (sym (sized b is ∙ ap s.size fails.1)) fails.0));
  }
  unseen Device sized fails = record { reads = fails.0; ok = tt; err = inr (refl, fails.1) }
  unseen fault sized fails = absurd fails

  pub unseen_says : (fault : ReadFault) → OpeningFails w s old new fault → OutputSays {A = Unit {0}} ⊥ (Err (read_fault fault))
  unseen_says Short fails = tt
  unseen_says Device fails = tt
  unseen_says fault fails = absurd fails

  pub unseen_reason : (fault : ReadFault) → OpeningFails w s old new fault → HasReason (store_reasons s (new ∷ []) ⊥) (read_fault fault)
  unseen_reason Short fails = tt
  unseen_reason Device fails = inl (let rose = fails.1 in omega (arith, rose))
  unseen_reason fault fails = absurd fails
