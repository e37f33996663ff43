use Rattle.cdb_tool.proofs.Words.{Follows, OnlyReads, ◌≡◌}
use Rattle.cdb_read.specs.Views.Walking.{left_of, bytes_left}
use Rattle.cdb_tool.proofs.BaseRecords.{AddedSoFar}
use Rattle.cdb_tool.proofs.runs.make_base.add_records.Given as goal

-- the records so far were added
abbrev pub invariant-loop-room : goal.invariant-loop-room
invariant-loop-room g l =
    record {
      same : l.records.reader.ghost_name ≡ l.initial.records.reader.ghost_name;
      reads : OnlyReads g.B.Store l.fn.reader.store l.records.reader.now.store;
      added : AddedSoFar {s = g.S.Store} {l = g.L.Width} g.L.Width.WORD (g.B.Store.image l.records.reader.now.store) (λ b. left_of g.L.Width.WORD b l.records) l.fn.maker l.maker;
      follows : Follows {s = g.S.Store} {l = g.L.Width} l.fn.maker l.maker;
      fine : g.S.Store.failures l.maker.store ≡ g.S.Store.failures l.fn.maker.store;
    }

abbrev pub decreases-loop-room : goal.decreases-loop-room
decreases-loop-room g l = bytes_left l.records
