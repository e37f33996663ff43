use Rattle.cdb_store.specs.Images.{AreSized}
use Rattle.cdb_store.proofs.Moves.{copied_held}
use Rattle.cdb_store.proofs.laws.moved_bytes_are_held.Goals as goal

pub returns : goal.returns
returns g c = λ lower inside fits copied held.
    let sized : AreSized (g.S.Store.size c.args._before.now) (g.S.Store.image c.args._before.now) = record { each = g.met.S.Store.image_size c.args._before.now } in
    copied_held c.args._offset lower inside fits sized copied held
