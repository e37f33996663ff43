use Rattle.cdb_store.proofs.Words.{AreSized, refl}
use Rattle.cdb_store.proofs.Moves.{held_first, held_join}
use Rattle.cdb_store.proofs.laws.written_bytes_are_held.Goals as goal

pub returns-clause-write : goal.returns-clause-write
returns-clause-write g c = λ inside w.
    let sized : AreSized (g.S.Store.size c.args._before.now) (g.S.Store.image c.args._before.now) = record { each = g.met.S.Store.image_size c.args._before.now } in
    held_first inside sized w

pub returns-clause-join : goal.returns-clause-join
returns-clause-join g c = λ held more. held_join refl held more
