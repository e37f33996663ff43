use Rattle.cdb_form.proofs.NativeTexts.TextLaws.{amends_by_puts}
use Rattle.cdb_form.proofs.laws.native_text_amends_by_puts.Goals as goal

pub returns : goal.returns
returns g c = amends_by_puts g.L.Width.GREATEST c.args._text.now
