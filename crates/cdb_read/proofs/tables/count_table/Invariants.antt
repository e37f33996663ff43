use Rattle.cdb_read.proofs.Words.{Counts, List, OnlyReads, Shows, pointer_pair, ℕ, ◌++◌}
use Rattle.cdb_read.proofs.Counting.SlotCounts.{distances_before}
use Rattle.cdb_read.proofs.tables.count_table.Given as goal

-- the used slots so far were counted
abbrev pub invariant-loop-n : goal.invariant-loop-n
invariant-loop-n g l =
    record {
      shows : Shows l.window (g.S.Store.image l.store);
      reads : OnlyReads g.S.Store l.fn.store l.store;
      counts : (b : List ℕ) → g.S.Store.image l.store b → (ds : List ℕ) → Counts l.fn.distances ds → Counts l.distances (ds ++ distances_before g.L.Width.WORD b (pointer_pair l.table) l.n);
    }
