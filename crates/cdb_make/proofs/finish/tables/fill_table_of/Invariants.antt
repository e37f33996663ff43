use Rattle.cdb_make.proofs.Words.{AreBytes, filled_slots, gathered_in, length, pair_size, slots_in, take, ◌*◌, ◌≡◌}
use Rattle.cdb_form.specs.Views.Pairs.{AreRuns}
use Rattle.cdb_make.proofs.finish.tables.fill_table_of.Given as goal

-- the slots that the entries so far fill
abbrev pub invariant-loop-n : goal.invariant-loop-n
invariant-loop-n g l = record {
  long : length l.bytes ≡ pair_size g.L.Width.WORD * (2 * length (gathered_in l.list));
  filled : slots_in g.L.Width.WORD l.bytes ≡ filled_slots (2 * length (gathered_in l.list)) (take l.n (gathered_in l.list));
  noted : length l.runs ≡ 2 * length (gathered_in l.list);
  bytes : AreBytes l.bytes;
  runs : AreRuns l.runs (slots_in g.L.Width.WORD l.bytes);
}
