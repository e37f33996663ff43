use Rattle.cdb_read.proofs.Words.{false, get_or, table_number, ℕ, ◌<◌, ◌≡◌, ◌≤◌}
use Rattle.cdb_read.proofs.checking.table_records.TableRecords.are_fresh.Given as goal

-- the records so far are of the table, and none is marked
abbrev pub invariant-loop-k : goal.invariant-loop-k
invariant-loop-k l = record {
  table : (j : ℕ) → j < l.k → table_number (get_or l.self.hashes.items j 0) ≡ l.n;
  fits : (j : ℕ) → j < l.k → get_or l.self.places.items j 0 ≤ l.top;
  unmarked : (j : ℕ) → j < l.k → get_or l.self.marks.items j false ≡ false;
}
