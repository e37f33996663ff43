use Rattle.std.proofs.Common.{◌-◌, ◌≤◌, length}
use Rattle.cdb_show.specs.Showing.{ShowsFirst}
use Rattle.cdb_show.proofs.shown.write_shown.Given as goal

-- the bytes so far were shown
abbrev pub invariant-loop-done : goal.invariant-loop-done
invariant-loop-done g l = record {
  inside : l.done ≤ length l.bytes;
  shows : ShowsFirst l.done l.bytes (g.E.Sink.contents l.fn.errors) (g.E.Sink.contents l.errors);
  stays : g.E.Sink.failed l.fn.errors → g.E.Sink.failed l.errors;
}

abbrev pub decreases-loop-done : goal.decreases-loop-done
decreases-loop-done g l = length l.bytes - l.done
