use Rattle.cdb_form.proofs.Words.{ChangeFits, arith, changes_of, recursion_from_All}
use Rattle.cdb_form.proofs.NativeTexts.RecordLemmas.{are_fitting}
use Rattle.cdb_form.proofs.NativeTexts.TextLaws.{changes_read_back as law}
use Rattle.cdb_form.proofs.laws.amending_text_reads_back.Goals as goal

pub returns : goal.returns
returns g c = λ fit.
    let xs = changes_of c.args._items.now in
    law g.L.Width.GREATEST xs c.args._rest.now (omega (arith, g.met.L.Width.greatest_fits.1)) (are_fitting g.L.Width.GREATEST c.args._items.now (recursion_from_All (ChangeFits g.L.Width.GREATEST) xs fit))
