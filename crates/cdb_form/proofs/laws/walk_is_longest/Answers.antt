use Rattle.std.proofs.Common.{◌<◌, arith, inl, inr}
use Rattle.cdb_form.proofs.Files.WalkLaws.{walk_of-IsWalk}
use Rattle.cdb_form.proofs.laws.walk_is_longest.Goals as goal

pub returns : goal.returns
returns g c =
    let w = g.L.Width.WORD in
    let some : 0 < w = elim g.met.L.Width.four_or_eight [ inl a ↦ omega arith | inr b ↦ omega arith ] in
    let laws = g.met.L.Width.greatest_fits in
    walk_of-IsWalk w g.L.Width.TOP c.args._bytes.now some g.met.L.Width.top_is (omega (arith, laws.0, laws.2)) (λ k. let h = c.type_inv._bytes k in omega (arith, h))
