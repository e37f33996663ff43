use Rattle.cdb_form.proofs.Words.{◌+◌, ◌⊎◌, AreBytes, Consumes, length, take, ◌-◌, ◌≤◌}
use Rattle.cdb_form.proofs.reading.all_bytes.Given as goal

-- the bytes so far
abbrev pub invariant-loop-done : goal.invariant-loop-done
invariant-loop-done g l =
    record {
      read : Consumes (g.R.Feeds.feed l.fn.reader) (g.R.Feeds.feed l.reader) (take l.done l.into);
      are : AreBytes (take l.done l.into);
      within : l.done ≤ length l.into;
      used : (g.R.Feeds.feed l.reader).failed ⊎ (l.fn.asks ≤ l.asks + l.done);
    }

abbrev pub decreases-loop-done : goal.decreases-loop-done
decreases-loop-done g l = length l.initial.into - l.done
