use Rattle.cdb_read.proofs.Words.{Spreads, map, pointer_pair, table_sizes, take, ◌≤◌}
use Rattle.cdb_read.proofs.tables.sizes_of.Given as goal

-- the tables so far that have slots
abbrev pub invariant-loop-n : goal.invariant-loop-n
invariant-loop-n l = record {
  few : l.sizes.count ≤ l.n;
  spreads : Spreads l.sizes (table_sizes (take l.n (map pointer_pair l.tables)));
}
