use Rattle.cdb_read.proofs.Words.{List, OnlyReads, Shows, pointer_pair, run_of, slots_at, take, ℕ, ◌++◌, ◌+◌, ◌≡◌, ◌≤◌}
use Rattle.cdb_read.proofs.Checks.SlotChecks.{IsClearTo}
use Rattle.cdb_read.proofs.checking.slots.check_table.Given as goal

-- the slots so far have no fault, and the run before the next is known
abbrev pub invariant-loop-i : goal.invariant-loop-i
invariant-loop-i g l =
    record {
      shows : Shows l.window (g.S.Store.image l.store);
      reads : OnlyReads g.S.Store l.fn.store l.store;
      small : l.run ≤ l.table.slots + l.i;
      run : (b : List ℕ) → g.S.Store.image l.store b
          → l.run ≡ run_of (slots_at g.L.Width.WORD b (pointer_pair l.table) ++ take l.i (slots_at g.L.Width.WORD b (pointer_pair l.table)));
      clear : (b : List ℕ) → g.S.Store.image l.store b → IsClearTo g.L.Width.WORD l.n (pointer_pair l.table) b l.fn.entries l.entries l.i;
    }
