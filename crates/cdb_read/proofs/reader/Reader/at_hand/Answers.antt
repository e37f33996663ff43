use Rattle.std.proofs.Common.{◌∙◌}
use Rattle.cdb_read.proofs.Bytes.Windows.{shown_is}
use Rattle.cdb_read.proofs.reader.Reader.at_hand.Goals as goal

pub returns : goal.returns
returns g c = record { is = λ b image. c.shown.ensures.is ∙ shown_is c.args.self.now.window (g.S.Store.image c.args.self.now.store) c.args.place c.args.n c.args.self.now.shows c.requires.at_hand b image }
