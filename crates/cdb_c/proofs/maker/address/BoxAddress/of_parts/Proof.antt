-- `of_parts` moves two fields, and what they own goes with them.
use mathlib.Core.Path.{◌≡◌, refl}
use Rattle.std.specs.Prelude.{Some}
use base.Logic.{emp, via, fst∗, id⊢}
use Rattle.std_heap.specs.contracts.Global as Heap
use Rattle.std_heap.specs.contracts.GlobalAllocator.TheImpl.{ghosts}
use Rattle.cdb_c.specs.contracts.maker.address.BoxAddress as BoxAddress
use Rattle.cdb_c.specs.contracts.maker.database.Database as Database
use Rattle.cdb_c.specs.contracts.maker.parts.Parts as Parts
use Rattle.cdb_c.specs.contracts.maker.address.BoxAddress.of_parts as F
use Rattle.cdb_c.proofs.AsBox.{E}
use Rattle.cdb_c.proofs.PartMoves.{moved}
use Rattle.cdb_c.proofs.maker.address.BoxAddress.of_parts.Statement as stated
use Rattle.cdb_c.proofs.maker.address.BoxAddress.of_parts.Code as code

pub of_parts_spec : {M : Type 1} → stated.statement M
of_parts_spec 𝓤 𝓛 𝓜 𝓡 wired =
    moved 𝓛 E (Parts.the_row Database.the_row Heap.the_row ghosts) BoxAddress.the_row (λ κs x f. refl) (λ x. tt) _ _ (λ _. emp 𝓤) (λ parts slot. slot.kept ≡ Some parts.value) 𝓜 𝓡 F.Key.name (code.unfolded 𝓤 𝓛.H 𝓜 𝓡 wired)
    (λ parts vs Q then. via 𝓤 _ (fst∗ 𝓤 _ (emp 𝓤)) (then (record { ptr = parts.ptr; alloc = parts.alloc; value = parts.value }) (record { at = parts.ptr; alloc = parts.alloc; kept = Some parts.value }) (λ w. id⊢ 𝓤 _) refl))
