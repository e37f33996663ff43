use Rattle.cdb_make.proofs.Words.{AfterWrite, all_gathered, flat_map, length, max, sum_by, table_bytes, take, ◌*◌, ◌+◌, ◌≡◌, ◌≤◌}
use Rattle.cdb_make.proofs.finish.tables.write_group.Given as goal

-- the tables so far are written, and the next begins after them
abbrev pub invariant-loop-list : goal.invariant-loop-list
invariant-loop-list g l = record {
  place : l.place ≡ l.start + 4 * g.L.Width.WORD * sum_by length (all_gathered (take l.list-index l.lists));
  runs : length l.runs ≡ length l.fn.runs;
  bytes : length l.bytes ≡ length l.fn.bytes;
  tables : AfterWrite l.start (flat_map (table_bytes g.L.Width.WORD) (all_gathered (take l.list-index l.lists))) (g.S.Store.image l.fn.store) (g.S.Store.image l.store);
  size : g.S.Store.size l.store ≡ max (g.S.Store.size l.fn.store) l.place;
  written : g.S.Store.written l.store + l.start ≡ g.S.Store.written l.fn.store + l.place;
  room : g.S.Store.room l.fn.store ≤ g.S.Store.room l.store;
  unwritten : g.S.Store.unwritten l.fn.store ≤ g.S.Store.unwritten l.store;
  failures : g.S.Store.failures l.fn.store ≤ g.S.Store.failures l.store;
}
