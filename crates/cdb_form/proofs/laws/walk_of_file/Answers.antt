use Rattle.cdb_form.proofs.Words.{arith, key_values}
use Rattle.cdb_form.proofs.Files.WalkLaws.{walk_of-file_bytes}
use Rattle.cdb_form.proofs.laws.walk_of_file.Goals as goal

pub returns : goal.returns
returns g c fits =
    let w = g.L.Width.WORD in
    let laws = g.met.L.Width.greatest_fits in
    walk_of-file_bytes w g.L.Width.TOP (key_values c.args._records.now) g.met.L.Width.four_or_eight g.met.L.Width.top_is (omega (arith, laws.0))
