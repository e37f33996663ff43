-- `new` makes a value of no bytes, at the empty list.
use mathlib.Core.Path.{◌≡◌, refl}
use mathlib.Core.List.{[], ◌∷◌}
use mir.Val.{vstruct, vnil}
use Rattle.cdb_store.proofs.Traces.{made}
use Rattle.cdb_names.specs.declared.name_trace.NameTrace.{NameTrace}
use Rattle.cdb_names.specs.contracts.name_trace.NameTrace as T
use Rattle.cdb_names.specs.contracts.name_trace.NameTrace.new as it
use Rattle.cdb_names.proofs.name_trace.NameTrace.new.Statement as stated
use Rattle.cdb_names.proofs.name_trace.NameTrace.new.Code as code

pub new_spec : {M : Type 1} → stated.statement M
new_spec 𝓤 𝓛 𝓜 𝓡 wired =
    made 𝓛 T.the_row _ _ (λ (t : NameTrace). t.events ≡ []) 𝓜 𝓡 it.Key.name (code.unfolded 𝓤 𝓛.H 𝓜 𝓡 wired) (record { marker = record {}; events = [] })
    ((λ vss. (tt, ((λ uss. (tt, tt)), tt))), tt) (((vstruct vnil ∷ [], tt), (refl, ((tt, (refl, tt)), tt))), tt) refl
