-- `into_parts` moves two fields, and what they own goes with them.
use mathlib.Core.Path.{◌≡◌, refl}
use base.Logic.{emp, via, fst∗, id⊢}
use Rattle.std.specs.contracts.fs.File as File
use Rattle.std_heap.specs.contracts.Global as Heap
use Rattle.std_heap.specs.contracts.GlobalAllocator.TheImpl.{ghosts}
use Rattle.cdb_c.specs.contracts.maker.file.GivenFile as GivenFile
use Rattle.cdb_c.specs.contracts.maker.parts.Parts as Parts
use Rattle.cdb_c.specs.contracts.maker.file.GivenFile.into_parts as F
use Rattle.cdb_c.proofs.AsBox.{F as E}
use Rattle.cdb_c.proofs.PartMoves.{moved}
use Rattle.cdb_c.proofs.maker.file.GivenFile.into_parts.Statement as stated
use Rattle.cdb_c.proofs.maker.file.GivenFile.into_parts.Code as code

pub into_parts_spec : {M : Type 1} → stated.statement M
into_parts_spec 𝓤 𝓛 𝓜 𝓡 wired =
    moved 𝓛 E GivenFile.the_row (Parts.the_row File.the_row Heap.the_row ghosts) (λ κs x f. refl) (λ x. tt) _ _ (λ _. emp 𝓤) (λ given parts. parts.value ≡ given.file) 𝓜 𝓡 F.Key.name (code.unfolded 𝓤 𝓛.H 𝓜 𝓡 wired)
    (λ given vs Q then. via 𝓤 _ (fst∗ 𝓤 _ (emp 𝓤)) (then (record { ptr = given.at; alloc = given.alloc; value = given.file }) (record { ptr = given.at; alloc = given.alloc; value = given.file }) (λ w. id⊢ 𝓤 _) refl))
