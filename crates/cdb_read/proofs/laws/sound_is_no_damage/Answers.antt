use Rattle.std.proofs.Common.{◌<◌, arith, inl, inr}
use Rattle.cdb_read.proofs.WholeFiles.FaultLaws.{sound_is_no_damage as law}
use Rattle.cdb_read.proofs.laws.sound_is_no_damage.Goals as goal

pub returns : goal.returns
returns g c =
    let w = g.L.Width.WORD in
    let some : 0 < w = elim g.met.L.Width.four_or_eight [ inl a ↦ omega arith | inr b ↦ omega arith ] in
    law w c.args._bytes.now some
