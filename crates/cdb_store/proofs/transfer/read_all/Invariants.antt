use Rattle.cdb_store.proofs.Words.{Came, Untouched, failure_count, length, take, ◌-◌, ◌≡◌, ◌≤◌}
use Rattle.cdb_store.proofs.transfer.read_all.Given as goal

abbrev pub invariant-loop-done : goal.invariant-loop-done
invariant-loop-done g l = record {
  inside : l.done ≤ length l.into;
  came : Came l.pos (take l.done l.into) (g.F.RawFile.calls l.file);
  untouched : Untouched (g.F.RawFile.calls l.fn.file) (g.F.RawFile.calls l.file);
  fine : failure_count (g.F.RawFile.calls l.file) ≡ failure_count (g.F.RawFile.calls l.fn.file);
}

abbrev pub decreases-loop-done : goal.decreases-loop-done
decreases-loop-done g l = length l.initial.into - l.done
