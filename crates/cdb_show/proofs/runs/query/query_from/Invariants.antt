use Rattle.cdb_show.proofs.Words.{left_in, slots_left, ◌≡◌}
use Rattle.cdb_show.specs.Runs.Query.{shown_text}
use Rattle.cdb_show.proofs.Queries.{WrittenSoFar}
use Rattle.cdb_show.proofs.runs.query.query_from.Given as goal

-- the values so far were written
abbrev pub invariant-loop-value : goal.invariant-loop-value
invariant-loop-value g l =
    record {
      same : l.finder.reader.ghost_name ≡ l.fn.finder.reader.ghost_name;
      key : l.finder.key.now ≡ l.fn.finder.key.now;
      written : WrittenSoFar g.L.Width.WORD (λ b. left_in g.L.Width.WORD b l.fn.finder) (shown_text l.shown) l.fn.finder.reader.now.store l.finder (g.W.Sink.contents l.fn.w) (g.W.Sink.contents l.w) l.found;
    }

abbrev pub decreases-loop-value : goal.decreases-loop-value
decreases-loop-value g l = slots_left l.finder
