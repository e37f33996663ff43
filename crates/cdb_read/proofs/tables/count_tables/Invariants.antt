use Rattle.cdb_read.proofs.Words.{Counts, List, OnlyReads, Shows, map, pointer_pair, ℕ}
use Rattle.cdb_read.proofs.Counting.SlotCounts.{tables_before}
use Rattle.cdb_read.proofs.tables.count_tables.Given as goal

-- the used slots of the tables so far were counted
abbrev pub invariant-loop-n : goal.invariant-loop-n
invariant-loop-n g l =
    record {
      shows : Shows l.window (g.S.Store.image l.store);
      reads : OnlyReads g.S.Store l.fn.store l.store;
      counts : (b : List ℕ) → g.S.Store.image l.store b → Counts l.distances (tables_before g.L.Width.WORD b (map pointer_pair l.tables) l.n);
    }
