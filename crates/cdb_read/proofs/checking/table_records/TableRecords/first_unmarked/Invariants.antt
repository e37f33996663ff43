use Rattle.cdb_read.proofs.Words.{List, Marks, WordPair, entry_pairs, ◌≡◌}
use Rattle.cdb_read.proofs.Checks.Entered.{lost_from}
use Rattle.cdb_read.proofs.checking.table_records.TableRecords.first_unmarked.Given as goal

-- slots point to the records so far
abbrev pub invariant-loop-k : goal.invariant-loop-k
invariant-loop-k l =
    record {
      told : (entries slots : List WordPair) → Marks l.self entries slots
          → lost_from slots (entry_pairs l.self) 0 ≡ lost_from slots (entry_pairs l.self) l.k;
    }
