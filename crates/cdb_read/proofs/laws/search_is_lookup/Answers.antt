use Rattle.std.proofs.Common.{◌<◌, arith, inl, inr}
use Rattle.cdb_read.proofs.WholeFiles.Searched.{search_is_lookup}
use Rattle.cdb_read.proofs.WholeFiles.SoundLookups.{finds_walked}
use Rattle.cdb_read.proofs.laws.search_is_lookup.Goals as goal

pub returns-clause-undamaged : goal.returns-clause-undamaged
returns-clause-undamaged g c = λ none. search_is_lookup g.L.Width.WORD c.args._bytes.now c.args._key.now none

pub returns-clause-sound : goal.returns-clause-sound
returns-clause-sound g c = λ sound.
    let w = g.L.Width.WORD in
    let some : 0 < w = elim g.met.L.Width.four_or_eight [ inl a ↦ omega arith | inr b ↦ omega arith ] in
    let laws = g.met.L.Width.greatest_fits in
    let walked = finds_walked w g.L.Width.TOP c.args._bytes.now c.args._key.now some g.met.L.Width.top_is (omega (arith, laws.0, laws.2)) (λ k. let h = c.type_inv._bytes k in omega (arith, h)) sound in
    search_is_lookup w c.args._bytes.now c.args._key.now walked.sound
