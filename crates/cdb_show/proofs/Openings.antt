-- A store that was not opened: it has no head, or failed.
use Rattle.cdb_show.proofs.Words.{Ghosts, OnlyReads, OpeningFails, ReadFault, head_size, ℕ, ◌<◌, ◌≡◌}
use Rattle.cdb_store.proofs.Reading.{reads_nothing}
use Rattle.cdb_read.specs.declared.fault.ReadFault.TheVariants as read

module _ {S : Type 0} (w : ℕ) (s : Ghosts S) (old new : S) where
  -- what holds of both holds of its fault
  pub unopened_by : (P : ReadFault → Type 0) → (s.size old < head_size w → new ≡ old → P read.Short) → (OnlyReads s old new → s.failures old < s.failures new → P read.Device) → (f : ReadFault) → OpeningFails w s old new f → P f
  unopened_by P short device read.Short fails = short fails.0 fails.1
  unopened_by P short device read.Device fails = device fails.0 fails.1
  unopened_by P short device f fails = absurd fails

  pub opening_reads : (f : ReadFault) → OpeningFails w s old new f → OnlyReads s old new
  opening_reads = unopened_by (λ f. OnlyReads s old new) (λ short same. reads_nothing {s = s} old new same) (λ reads failed. reads)
