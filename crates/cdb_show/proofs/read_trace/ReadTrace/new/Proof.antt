-- `new` makes a value of no bytes, at the empty list.
use mathlib.Core.Path.{◌≡◌, refl}
use mathlib.Core.List.{[], ◌∷◌}
use mir.Val.{vstruct, vnil}
use Rattle.cdb_store.proofs.Traces.{made}
use Rattle.cdb_show.specs.declared.read_trace.ReadTrace.{ReadTrace}
use Rattle.cdb_show.specs.contracts.read_trace.ReadTrace as T
use Rattle.cdb_show.specs.contracts.read_trace.ReadTrace.new as it
use Rattle.cdb_show.proofs.read_trace.ReadTrace.new.Statement as stated
use Rattle.cdb_show.proofs.read_trace.ReadTrace.new.Code as code

pub new_spec : {M : Type 1} → stated.statement M
new_spec 𝓤 𝓛 𝓜 𝓡 wired =
    made 𝓛 T.the_row _ _ (λ (t : ReadTrace). t.events ≡ []) 𝓜 𝓡 it.Key.name (code.unfolded 𝓤 𝓛.H 𝓜 𝓡 wired) (record { marker = record {}; events = [] })
    ((λ vss. (tt, ((λ uss. (tt, tt)), tt))), tt) (((vstruct vnil ∷ [], tt), (refl, ((tt, (refl, tt)), tt))), tt) refl
