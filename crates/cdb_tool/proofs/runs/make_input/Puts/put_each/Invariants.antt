use Rattle.cdb_tool.proofs.Words.{Follows, KeyValue, List, progress, ◌≡◌}
use Rattle.cdb_tool.specs.Runs.Batches.{HoldsBatch}
use Rattle.cdb_tool.proofs.Batches.{PutSoFar}
use Rattle.cdb_tool.proofs.runs.make_input.Puts.put_each.Given as goal

-- the records up to a place were put
abbrev pub invariant-loop-index : goal.invariant-loop-index
invariant-loop-index g l =
    record {
      each : (rs : List KeyValue) → HoldsBatch g.L.Width.WORD g.L.Width.TOP l.batch rs
          → PutSoFar {s = g.S.Store} {l = g.L.Width} l.self.options l.input l.batch l.bytes l.index l.place rs (progress (g.E.Sink.contents l.fn.errors) l.fn.maker) (progress (g.E.Sink.contents l.errors) l.maker);
      follows : Follows {s = g.S.Store} {l = g.L.Width} l.fn.maker l.maker;
      fine : g.S.Store.failures l.maker.store ≡ g.S.Store.failures l.fn.maker.store;
    }
