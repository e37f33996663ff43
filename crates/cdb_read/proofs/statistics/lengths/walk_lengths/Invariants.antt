use Rattle.cdb_read.proofs.Words.{List, OnlyReads, bytes_left, left_of, place_of, ℕ, ◌≡◌, ◌≤◌}
use Rattle.cdb_read.proofs.Walked.WalkedLengths.{WalkedSoFar}
use Rattle.cdb_read.proofs.statistics.lengths.walk_lengths.Given as goal

-- the records so far were counted
abbrev pub invariant-loop-pair : goal.invariant-loop-pair
invariant-loop-pair g l =
    record {
      same : l.records.reader.ghost_name ≡ l.initial.records.reader.ghost_name;
      reads : OnlyReads g.S.Store l.fn.reader.store l.records.reader.now.store;
      head : l.records.reader.now.head ≡ l.fn.reader.head;
      few_keys : l.keys.count ≤ place_of g.L.Width.WORD l.records;
      few_values : l.values.count ≤ place_of g.L.Width.WORD l.records;
      walked : (b : List ℕ) → g.S.Store.image l.records.reader.now.store b → WalkedSoFar g.L.Width.WORD b (left_of g.L.Width.WORD b l.records) l.keys l.values;
    }

abbrev pub decreases-loop-pair : goal.decreases-loop-pair
decreases-loop-pair g l = bytes_left l.records
