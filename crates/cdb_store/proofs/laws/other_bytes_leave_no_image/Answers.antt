use Rattle.cdb_store.proofs.Moves.{no_image}
use Rattle.cdb_store.proofs.laws.other_bytes_leave_no_image.Goals as goal

pub returns : goal.returns
returns g c = λ e other held r. no_image e other held r
