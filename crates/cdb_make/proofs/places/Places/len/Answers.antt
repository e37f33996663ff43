use Rattle.std.proofs.Common.{arith}
use Rattle.cdb_make.proofs.Halves.{length-halves}
use Rattle.cdb_make.proofs.places.Places.len.Goals as goal

pub returns : goal.returns
returns g c =
    let s = c.args.self.now in
    omega (arith, length-halves s.lows.items s.highs.items, s.lows.ok.0, c.len.ensures)
