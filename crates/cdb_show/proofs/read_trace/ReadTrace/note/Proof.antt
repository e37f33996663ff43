-- An empty body: the trace gets another ghost value.
use Rattle.std.proofs.Common.{◌≡◌, List, ◌∷◌, refl, ℕ}
use base.Logic.{id⊢}
use Rattle.cdb_store.proofs.Traces.{noted}
use Rattle.cdb_show.specs.declared.read_trace.ReadCall.{ReadCall}
use Rattle.cdb_show.specs.declared.read_trace.ReadTrace.{ReadTrace}
use Rattle.cdb_show.specs.contracts.read_trace.ReadCall as K
use Rattle.cdb_show.specs.contracts.read_trace.ReadTrace as T
use Rattle.cdb_show.specs.contracts.read_trace.ReadTrace.note as it
use Rattle.cdb_show.proofs.read_trace.ReadTrace.note.Statement as stated
use Rattle.cdb_show.proofs.read_trace.ReadTrace.note.Code as code

pub note_spec : {M : Type 1} → stated.statement M
note_spec 𝓤 𝓛 𝓜 𝓡 wired =
    noted 𝓛 T.the_row K.the_row _ _ _ (λ (h : ReadTrace) (k : ReadCall) (s : List ℕ) (n : ReadTrace). n.events ≡ (k, s) ∷ h.events) 𝓜 𝓡 it.Key.name (code.unfolded 𝓤 𝓛.H 𝓜 𝓡 wired)
    (λ h k s. record { marker = h.marker; events = (k, s) ∷ h.events }) (λ h k s vs. id⊢ 𝓤 _) (λ h k s. refl)
