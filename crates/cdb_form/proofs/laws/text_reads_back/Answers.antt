use Rattle.cdb_form.proofs.Words.{LengthsFit, arith, key_values, recursion_from_All}
use Rattle.cdb_form.proofs.NativeTexts.RecordLemmas.{are_records}
use Rattle.cdb_form.proofs.NativeTexts.TextLaws.{text_reads_back as law}
use Rattle.cdb_form.proofs.laws.text_reads_back.Goals as goal

pub returns : goal.returns
returns g c = λ fit.
    let rs = key_values c.args._records.now in
    law g.L.Width.GREATEST rs c.args._rest.now (omega (arith, g.met.L.Width.greatest_fits.1)) (are_records c.args._records.now) (recursion_from_All (LengthsFit g.L.Width.GREATEST) rs fit)
