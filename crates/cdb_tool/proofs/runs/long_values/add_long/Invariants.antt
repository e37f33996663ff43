use Rattle.cdb_tool.proofs.Words.{Follows, List, Maker, [], ℕ}
use Rattle.std.specs.Prelude.{◌-◌}
use Rattle.cdb_make.specs.Views.Long.{IsPart}
use Rattle.cdb_make.specs.Views.Maker.{HasNotFailed, SameCounts}
use Rattle.cdb_tool.specs.Runs.LongValues.{IsAmid, LongItem}
use Rattle.cdb_tool.proofs.runs.long_values.add_long.Given as goal

-- the value so far was read and written
abbrev pub invariant-loop-items : goal.invariant-loop-items
invariant-loop-items g l =
    record {
      part : (first : Maker g.row.S.Denot g.row.L.Denot g.S.Store g.L.Width) (it : LongItem g.row.F.Denot g.row.L.Denot) → IsPart first l.fn.maker it.key it.vlen [] l.fn.long → IsAmid g.L.Width.GREATEST g.F.Feeds.feed it l.fn.items [] → (got : List ℕ) × IsPart first l.maker it.key it.vlen got l.long × IsAmid g.L.Width.GREATEST g.F.Feeds.feed it l.items got;
      follows : Follows l.fn.maker l.maker;
      fine : HasNotFailed l.fn.maker l.maker;
      counts : SameCounts l.fn.maker l.maker;
    }

abbrev pub decreases-loop-items : goal.decreases-loop-items
decreases-loop-items g l = l.long.last - l.long.end
