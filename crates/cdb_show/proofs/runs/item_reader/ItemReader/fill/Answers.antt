use Rattle.cdb_show.proofs.ItemInputs.{form_fills}
use Rattle.cdb_show.proofs.runs.item_reader.ItemReader.fill.Goals as goal

pub returns-in-Form : goal.returns-in-Form
returns-in-Form g c = form_fills g.L.Width.GREATEST g.F.Feeds.feed c.in-Form.removals c.args.self.now c.in-Form.reader c.fill.new.self _ _ _ _ _ _ c.in-Form.is c.fill.ensures.fills
