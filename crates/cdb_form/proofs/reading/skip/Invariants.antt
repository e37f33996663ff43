use Rattle.std.proofs.Common.{◌+◌, ◌⊎◌, ◌≡◌, ◌-◌, ◌≤◌, length}
use Rattle.cdb_form.specs.Views.Taking.{Passes}
use Rattle.cdb_form.proofs.reading.skip.Given as goal

-- so many bytes were passed
abbrev pub invariant-loop-done : goal.invariant-loop-done
invariant-loop-done g l =
    record {
      read : Passes l.done (g.R.Feeds.feed l.fn.reader) (g.R.Feeds.feed l.reader);
      within : l.done ≤ l.len;
      used : (g.R.Feeds.feed l.reader).failed ⊎ (l.fn.asks ≤ l.asks + l.done);
      piece : length l.piece ≡ length l.fn.piece;
    }

abbrev pub decreases-loop-done : goal.decreases-loop-done
decreases-loop-done g l = l.len - l.done
