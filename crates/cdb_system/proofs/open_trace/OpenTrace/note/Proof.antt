-- An empty body: the trace gets another ghost value.
use Rattle.cdb_system.proofs.Words.{List, OpenCall, OpenTrace, refl, ℕ, ◌∷◌, ◌≡◌}
use base.Logic.{id⊢}
use Rattle.cdb_store.proofs.Traces.{noted}
use Rattle.cdb_system.specs.contracts.open_trace.OpenCall as K
use Rattle.cdb_system.specs.contracts.open_trace.OpenTrace as T
use Rattle.cdb_system.specs.contracts.open_trace.OpenTrace.note as it
use Rattle.cdb_system.proofs.open_trace.OpenTrace.note.Statement as stated
use Rattle.cdb_system.proofs.open_trace.OpenTrace.note.Code as code

pub note_spec : {M : Type 1} → stated.statement M
note_spec 𝓤 𝓛 𝓜 𝓡 wired =
    noted 𝓛 T.the_row K.the_row _ _ _ (λ (h : OpenTrace) (k : OpenCall) (s : List ℕ) (n : OpenTrace). n.events ≡ (k, s) ∷ h.events) 𝓜 𝓡 it.Key.name (code.unfolded 𝓤 𝓛.H 𝓜 𝓡 wired)
    (λ h k s. record { marker = h.marker; events = (k, s) ∷ h.events }) (λ h k s vs. id⊢ 𝓤 _) (λ h k s. refl)
