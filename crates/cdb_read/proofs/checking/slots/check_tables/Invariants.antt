use Rattle.cdb_read.proofs.Words.{List, OnlyReads, Shows, length, ℕ, ◌≡◌}
use Rattle.cdb_read.proofs.Checks.AllTables.{AreClearTo}
use Rattle.cdb_read.proofs.checking.slots.check_tables.Given as goal

-- the tables so far have no fault
abbrev pub invariant-loop-n : goal.invariant-loop-n
invariant-loop-n g l =
    record {
      shows : Shows l.window (g.S.Store.image l.store);
      many : length l.lists ≡ 256;
      reads : OnlyReads g.S.Store l.fn.store l.store;
      clear : (b : List ℕ) → g.S.Store.image l.store b → AreClearTo g.L.Width.WORD b l.fn.lists l.lists l.n;
    }
