use Rattle.cdb_read.proofs.Words.{List, OnlyReads, bytes_left, left_of, length, place_of, ℕ, ◌≡◌}
use Rattle.cdb_read.proofs.Checks.EnteredWalk.{EnteredSoFar}
use Rattle.cdb_read.proofs.checking.collected.walk_entries.Given as goal

-- the records so far are kept
abbrev pub invariant-loop-lists : goal.invariant-loop-lists
invariant-loop-lists g l =
    record {
      same : l.records.reader.ghost_name ≡ l.initial.records.reader.ghost_name;
      reads : OnlyReads g.S.Store l.fn.reader.store l.records.reader.now.store;
      head : l.records.reader.now.head ≡ l.fn.reader.head;
      entered : (b : List ℕ) → g.S.Store.image l.records.reader.now.store b → EnteredSoFar g.L.Width.WORD b (left_of g.L.Width.WORD b l.records) (place_of g.L.Width.WORD l.records) l.lists.items;
      many : length l.lists.items ≡ 256;
    }

abbrev pub decreases-loop-lists : goal.decreases-loop-lists
decreases-loop-lists g l = bytes_left l.records
