-- `new` makes a value of no bytes, at the empty list.
use mathlib.Core.Path.{◌≡◌, refl}
use mathlib.Core.List.{[], ◌∷◌}
use mir.Val.{vstruct, vnil}
use Rattle.cdb_store.proofs.Traces.{made}
use Rattle.cdb_system.specs.declared.open_trace.OpenTrace.{OpenTrace}
use Rattle.cdb_system.specs.contracts.open_trace.OpenTrace as T
use Rattle.cdb_system.specs.contracts.open_trace.OpenTrace.new as it
use Rattle.cdb_system.proofs.open_trace.OpenTrace.new.Statement as stated
use Rattle.cdb_system.proofs.open_trace.OpenTrace.new.Code as code

pub new_spec : {M : Type 1} → stated.statement M
new_spec 𝓤 𝓛 𝓜 𝓡 wired =
    made 𝓛 T.the_row _ _ (λ (t : OpenTrace). t.events ≡ []) 𝓜 𝓡 it.Key.name (code.unfolded 𝓤 𝓛.H 𝓜 𝓡 wired) (record { marker = record {}; events = [] })
    ((λ vss. (tt, ((λ uss. (tt, tt)), tt))), tt) (((vstruct vnil ∷ [], tt), (refl, ((tt, (refl, tt)), tt))), tt) refl
