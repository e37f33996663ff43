use Rattle.cdb_make.proofs.Words.{AfterWrite, flat_map, length, max, roll_entries, rooms_of, sum_by, table_bytes, tables_of, ◌*◌, ◌+◌, ◌≡◌, ◌≤◌}
use Rattle.cdb_make.proofs.finish.tables.write_tables.Given as goal

-- the tables so far are written, and the next begins after them
abbrev pub invariant-loop-group : goal.invariant-loop-group
invariant-loop-group g l = record {
  place : l.place ≡ l.end + 4 * g.L.Width.WORD * sum_by length (tables_of (roll_entries l.roll) 0 (32 * l.group));
  lists : length l.lists ≡ 32;
  rooms : rooms_of l.lists ≡ rooms_of l.fn.lists;
  runs : length l.runs ≡ length l.fn.runs;
  bytes : length l.bytes ≡ length l.fn.bytes;
  tables : AfterWrite l.end (flat_map (table_bytes g.L.Width.WORD) (tables_of (roll_entries l.roll) 0 (32 * l.group))) (g.S.Store.image l.fn.store) (g.S.Store.image l.store);
  size : g.S.Store.size l.store ≡ max (g.S.Store.size l.fn.store) l.place;
  written : g.S.Store.written l.store + l.end ≡ g.S.Store.written l.fn.store + l.place;
  room : g.S.Store.room l.fn.store ≤ g.S.Store.room l.store;
  failures : g.S.Store.failures l.fn.store ≤ g.S.Store.failures l.store;
  unwritten : g.S.Store.unwritten l.fn.store ≤ g.S.Store.unwritten l.store;
}
