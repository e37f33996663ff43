use Rattle.std.proofs.Common.{arith}
use Rattle.cdb_show.proofs.WindowLemmas.{taken}
use Rattle.cdb_show.proofs.window.Window.take_at_hand.Goals as goal

pub returns : goal.returns
returns g c = taken (g.F.Feeds.feed c.args.self.now.reader) c.args.self.now.window.items c.args.self.now.start c.args.self.now.end c.args.n (grind arith)
