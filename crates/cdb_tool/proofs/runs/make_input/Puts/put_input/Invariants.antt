use Rattle.cdb_tool.proofs.Words.{progress}
use Rattle.cdb_show.specs.Views.ItemReader.{asks_left, form_of, reader_of}
use Rattle.cdb_tool.proofs.InputBatches.{Comes}
use Rattle.cdb_tool.proofs.runs.make_input.Puts.put_input.Given as goal

-- the first items so far were done, and the others wait
abbrev pub invariant-loop-item : goal.invariant-loop-item
invariant-loop-item g l =
    record {
      comes : Comes {s = g.S.Store} {l = g.L.Width} l.self.options l.input g.L.Width.GREATEST g.F.Feeds.feed (g.F.Feeds.feed (reader_of l.fn.items)) (form_of l.fn.items) (progress (g.E.Sink.contents l.fn.errors) l.fn.maker) l.items l.batch (progress (g.E.Sink.contents l.errors) l.maker);
    }

abbrev pub decreases-loop-item : goal.decreases-loop-item
decreases-loop-item g l = asks_left l.items
