use Rattle.cdb_read.proofs.Words.{List, OnlyReads, Shows, pointer_pair, run_of, slots_at, take, ℕ, ◌+◌, ◌-◌, ◌≡◌}
use Rattle.cdb_read.proofs.checking.slot_runs.last_run.Given as goal

-- the run is that of the slots before, and those that were looked at
abbrev pub invariant-loop-run : goal.invariant-loop-run
invariant-loop-run g l =
    record {
      shows : Shows l.window (g.S.Store.image l.store);
      reads : OnlyReads g.S.Store l.fn.store l.store;
      run : (b : List ℕ) → g.S.Store.image l.store b → run_of (slots_at g.L.Width.WORD b (pointer_pair l.table)) ≡ l.run + run_of (take (l.table.slots - l.run) (slots_at g.L.Width.WORD b (pointer_pair l.table)));
    }
