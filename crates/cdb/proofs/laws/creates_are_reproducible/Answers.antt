use Rattle.cdb.proofs.MadeAlike.{creates_alike}
use Rattle.cdb.proofs.laws.creates_are_reproducible.Goals as goal

pub returns : goal.returns
returns g = creates_alike
