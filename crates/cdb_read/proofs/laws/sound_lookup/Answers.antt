use Rattle.std.proofs.Common.{◌<◌, arith, inl, inr}
use Rattle.cdb_read.proofs.WholeFiles.SoundLookups.{finds_walked}
use Rattle.cdb_read.proofs.laws.sound_lookup.Goals as goal

pub returns : goal.returns
returns g c = λ sound.
    let w = g.L.Width.WORD in
    let some : 0 < w = elim g.met.L.Width.four_or_eight [ inl a ↦ omega arith | inr b ↦ omega arith ] in
    let laws = g.met.L.Width.greatest_fits in
    finds_walked w g.L.Width.TOP c.args._bytes.now c.args._key.now some g.met.L.Width.top_is (omega (arith, laws.0, laws.2)) (λ k. let h = c.type_inv._bytes k in omega (arith, h)) sound
