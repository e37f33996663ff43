use Rattle.cdb_read.proofs.Words.{entry_pairs, filled_slots, length, pair_size, slots_in, take, ◌*◌, ◌≡◌}
use Rattle.cdb_form.specs.Views.Pairs.{AreRuns}
use Rattle.cdb_read.proofs.checking.filled_table.put_all.Given as goal

-- the slots that the entries so far fill
abbrev pub invariant-loop-k : goal.invariant-loop-k
invariant-loop-k g l = record {
  long : length l.bytes ≡ pair_size g.L.Width.WORD * (2 * length l.entries.places.items);
  filled : slots_in g.L.Width.WORD l.bytes ≡ filled_slots (2 * length (entry_pairs l.entries)) (take l.k (entry_pairs l.entries));
  noted : length l.runs ≡ 2 * length l.entries.places.items;
  runs : AreRuns l.runs (slots_in g.L.Width.WORD l.bytes);
}
