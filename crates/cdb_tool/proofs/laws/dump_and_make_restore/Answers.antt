use Rattle.cdb_tool.proofs.Words.{arith, key_values}
use Rattle.cdb_form.proofs.NativeTexts.RecordLemmas.{are_records}
use Rattle.cdb_tool.proofs.RestoreLaws.{restores}
use Rattle.cdb_tool.proofs.laws.dump_and_make_restore.Goals as goal

pub returns : goal.returns
returns g c = λ fits.
    let width = g.met.L.Width in
    restores g.L.Width.WORD g.L.Width.TOP g.L.Width.GREATEST (key_values c.args._records.now) width.four_or_eight width.top_is width.greatest_fits.0 (omega (arith, width.greatest_fits.1))
    (are_records c.args._records.now) fits
