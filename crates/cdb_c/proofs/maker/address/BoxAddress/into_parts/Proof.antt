-- `into_parts` moves two fields, and what they own goes with them.
use mathlib.Core.Path.{◌≡◌, refl, sym, subst}
use Rattle.std.specs.Prelude.{Option, Some, true}
use base.Logic.{ent, id⊢}
use types.Logic.{sem}
use contract.Monad.{fact}
use denote.Triple.Walked.{needs}
use Rattle.std_heap.specs.contracts.Global as Heap
use Rattle.std_heap.specs.contracts.GlobalAllocator.TheImpl.{ghosts}
use Rattle.cdb_c.specs.Addresses.{is_kept}
use Rattle.cdb_c.specs.declared.maker.database.Database.{Database as Base}
use Rattle.cdb_c.specs.contracts.maker.address.BoxAddress as BoxAddress
use Rattle.cdb_c.specs.contracts.maker.database.Database as Database
use Rattle.cdb_c.specs.contracts.maker.parts.Parts as Parts
use Rattle.cdb_c.specs.contracts.maker.address.BoxAddress.into_parts as F
use Rattle.cdb_c.proofs.AsBox.{E, HasDatabase, database_in}
use Rattle.cdb_c.proofs.PartMoves.{moved}
use Rattle.cdb_c.proofs.maker.address.BoxAddress.into_parts.Statement as stated
use Rattle.cdb_c.proofs.maker.address.BoxAddress.into_parts.Code as code

pub into_parts_spec : {M : Type 1} → stated.statement M
into_parts_spec 𝓤 𝓛 𝓜 𝓡 wired =
    moved 𝓛 E BoxAddress.the_row (Parts.the_row Database.the_row Heap.the_row ghosts) (λ κs x f. refl) (λ x. tt) _ _ (λ slot. fact 𝓤 (is_kept slot.kept ≡ true)) (λ slot parts. slot.kept ≡ Some parts.value) 𝓜 𝓡 F.Key.name (code.unfolded 𝓤 𝓛.H 𝓜 𝓡 wired)
    (λ slot vs Q then. needs 𝓤 (is_kept slot.kept ≡ true) _ (λ is.
    let has : HasDatabase slot.kept = database_in slot.kept is in
    subst (λ (k : Option Base). ent 𝓤 (sem 𝓛 (BoxAddress.the_row.own_val (record { at = slot.at; alloc = slot.alloc; kept = k }) vs)) Q) (sym has.is)
    (then (record { ptr = slot.at; alloc = slot.alloc; value = has.database }) (record { ptr = slot.at; alloc = slot.alloc; value = has.database }) (λ w. id⊢ 𝓤 _) has.is)))
