use Rattle.std.proofs.Common.{List, ℕ}
use Rattle.cdb_form.proofs.MapTexts.MapReads.{LinesSoFar}
use Rattle.cdb_form.proofs.text.source.Source.map_entry.Given as goal

-- the lines so far are ignored
abbrev pub invariant-loop : goal.invariant-loop
invariant-loop g l = (ignored : List (List ℕ)) × LinesSoFar g.R.Feeds.feed l.fn.self l.self ignored

abbrev pub decreases-loop : goal.decreases-loop
decreases-loop g l = l.self.asks
