use Rattle.cdb_show.proofs.Words.{Change, List, ◌≡◌}
use Rattle.cdb_show.specs.Views.KeyReader.{form_of, reader_of, asks_left}
use Rattle.cdb_show.specs.Runs.InputTask.{progress}
use Rattle.cdb_show.specs.Runs.Inputs.{keys_of}
use Rattle.cdb_show.specs.Runs.Lookups.{lookup_task}
use Rattle.cdb_show.specs.Views.LookUps.{Looks}
use Rattle.cdb_show.proofs.KeyInputs.{GaveKeys}
use Rattle.cdb_show.proofs.runs.lookups.LookUps.look_up_input.Given as goal

-- the keys so far were looked up
abbrev pub invariant-loop-fault : goal.invariant-loop-fault
invariant-loop-fault g l =
    record {
      last : List Change;
      gave : GaveKeys g.L.Width.GREATEST g.F.Feeds.feed (g.F.Feeds.feed (reader_of l.fn.keys)) l.keys last;
      form : form_of l.keys ≡ form_of l.fn.keys;
      looked : Looks {s = g.S.Store} {l = g.L.Width} (lookup_task g.L.Width.WORD g.L.Width.GREATEST g.S.Store l.self.options) (keys_of last) (progress (g.W.Sink.contents l.fn.w) l.fn.looking) (progress (g.W.Sink.contents l.w) l.looking);
    }

abbrev pub decreases-loop-fault : goal.decreases-loop-fault
decreases-loop-fault g l = asks_left l.keys
