use Rattle.cdb_form.proofs.Words.{◌⊎◌, AreBytes, Consumes, length, take, ◌*◌, ◌+◌, ◌-◌, ◌≤◌}
use Rattle.cdb_form.proofs.reading.vector.Given as goal

-- the bytes so far, each of which took at least one request and at most 1001
abbrev pub invariant-loop-done : goal.invariant-loop-done
invariant-loop-done g l =
    record {
      read : Consumes (g.R.Feeds.feed l.fn.reader) (g.R.Feeds.feed l.reader) (take l.done l.into.items);
      are : AreBytes (take l.done l.into.items);
      held : l.done ≤ length l.into.items;
      within : l.done ≤ l.len;
      each : l.piece ≤ 4096 → l.done + 4096 * l.asks ≤ 4096 * l.fn.asks;
      fewer : l.asks ≤ l.fn.asks;
      spent : l.fn.asks ≤ l.asks + 1001 * l.done;
      used : (g.R.Feeds.feed l.reader).failed ⊎ (l.fn.asks ≤ l.asks + l.done);
    }

abbrev pub decreases-loop-done : goal.decreases-loop-done
decreases-loop-done g l = l.len - l.done
