use Rattle.std.proofs.Common.{◌≡◌}
use Rattle.cdb_read.specs.Views.Finder.{left_in, slots_left}
use Rattle.cdb_store.specs.Reads.{OnlyReads}
use Rattle.cdb_files.proofs.Asking.{AskedSoFar}
use Rattle.cdb_files.proofs.examples.read.write_values.Given as goal

-- the values so far were written
abbrev pub invariant-loop-span : goal.invariant-loop-span
invariant-loop-span g l =
    record {
      same : l.finder.reader.ghost_name ≡ l.initial.finder.reader.ghost_name;
      key : l.finder.key.now ≡ l.key;
      reads : OnlyReads g.S.Store l.fn.reader.store l.finder.reader.now.store;
      asked : AskedSoFar g.L.Width.WORD l.key (g.S.Store.image l.fn.reader.store) (g.S.Store.image l.finder.reader.now.store) (λ b. left_in g.L.Width.WORD b l.finder) (g.W.Sink.contents l.fn.w) (g.W.Sink.contents l.w);
    }

abbrev pub decreases-loop-span : goal.decreases-loop-span
decreases-loop-span g l = slots_left l.finder
