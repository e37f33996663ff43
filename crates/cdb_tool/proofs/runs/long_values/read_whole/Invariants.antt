use Rattle.cdb_tool.proofs.Words.{[], length, ◌≡◌, ◌≤◌}
use Rattle.std.specs.Prelude.{◌-◌}
use Rattle.cdb_tool.specs.Runs.LongValues.{IsAmid, LongItem}
use Rattle.cdb_tool.proofs.runs.long_values.read_whole.Given as goal

-- the value so far was read
abbrev pub invariant-loop-items : goal.invariant-loop-items
invariant-loop-items g l =
    record {
      amid : (it : LongItem g.row.F.Denot g.row.L.Denot) → it.vlen ≡ l.vlen → IsAmid g.L.Width.GREATEST g.F.Feeds.feed it l.fn.items [] → IsAmid g.L.Width.GREATEST g.F.Feeds.feed it l.items l.value.items;
      within : length l.value.items ≤ l.vlen;
    }

abbrev pub decreases-loop-items : goal.decreases-loop-items
decreases-loop-items g l = l.vlen - length l.value.items
