use Rattle.std.proofs.Common.{◌≡◌, ◌+◌, ◌≤◌, ◌-◌, length, take, false}
use Rattle.cdb_store.specs.Calls.{AfterPut, written_count, failed_syncs, failure_count, lost}
use Rattle.cdb_store.proofs.transfer.write_all.Given as goal

abbrev pub invariant-loop-done : goal.invariant-loop-done
invariant-loop-done g l = record {
  inside : l.done ≤ length l.bytes;
  put : AfterPut l.pos (take l.done l.bytes) (g.F.RawFile.calls l.fn.file) (g.F.RawFile.calls l.file);
  written : written_count (g.F.RawFile.calls l.file) ≡ written_count (g.F.RawFile.calls l.fn.file) + l.done;
  fine : failure_count (g.F.RawFile.calls l.file) ≡ failure_count (g.F.RawFile.calls l.fn.file);
  known : lost (g.F.RawFile.calls l.file) ≡ false;
  syncs : failed_syncs (g.F.RawFile.calls l.file) ≡ failed_syncs (g.F.RawFile.calls l.fn.file);
}

abbrev pub decreases-loop-done : goal.decreases-loop-done
decreases-loop-done g l = length l.bytes - l.done
