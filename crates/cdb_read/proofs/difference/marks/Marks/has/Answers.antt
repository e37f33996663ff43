use Rattle.cdb_read.proofs.MarkBits.{mark_read}
use Rattle.cdb_read.proofs.difference.marks.Marks.has.Goals as goal

pub returns : goal.returns
returns c = mark_read c.args.self.now.words.items c.args.hash c.index.result.now c.args.self.now.long c.index.ensures
