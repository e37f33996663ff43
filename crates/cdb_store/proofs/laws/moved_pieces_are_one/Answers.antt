use Rattle.cdb_store.proofs.Words.{AreSized, refl}
use Rattle.cdb_store.proofs.Moves.{copied_join}
use Rattle.cdb_store.proofs.laws.moved_pieces_are_one.Goals as goal

pub returns : goal.returns
returns g c = λ lower behind inside first second.
    let sized : AreSized (g.S.Store.size c.args._before.now) (g.S.Store.image c.args._before.now) = record { each = g.met.S.Store.image_size c.args._before.now } in
    copied_join lower behind inside refl sized first second
