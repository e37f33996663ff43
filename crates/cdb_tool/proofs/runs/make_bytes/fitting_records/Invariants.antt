use Rattle.cdb_form.specs.Views.TextReader.{IsGoing, asks_left, reader_of}
use Rattle.cdb_tool.proofs.WholeRuns.{HoldsSoFar}
use Rattle.cdb_tool.proofs.runs.make_bytes.fitting_records.Given as goal

-- the records so far
abbrev pub invariant-loop-fault : goal.invariant-loop-fault
invariant-loop-fault g l =
    record {
      going : IsGoing l.text;
      so_far : HoldsSoFar g.L.Width.WORD g.L.Width.GREATEST g.F.Feeds.feed (g.F.Feeds.feed (reader_of l.fn.text)) l.text l.maker;
    }

abbrev pub decreases-loop-fault : goal.decreases-loop-fault
decreases-loop-fault g l = asks_left l.text
