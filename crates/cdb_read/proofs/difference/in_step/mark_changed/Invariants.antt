use Rattle.cdb_read.specs.Differing.{ReadBoth, AreInStep, bytes_ahead}
use Rattle.cdb_read.proofs.difference.in_step.mark_changed.Given as goal

-- the walks are in step
abbrev pub invariant-loop : goal.invariant-loop
invariant-loop g l =
    record {
      reads : ReadBoth l.fn.own l.own l.fn.other l.other;
      in_step : AreInStep g.L.Width.WORD g.S.Store g.T.Store l.own.store l.other.store l.marks.words.items l.at;
    }

abbrev pub decreases-loop : goal.decreases-loop
decreases-loop g l = bytes_ahead l.at
