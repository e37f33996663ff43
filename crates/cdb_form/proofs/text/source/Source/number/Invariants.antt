use Rattle.cdb_form.proofs.Words.{budget, ◌≡◌, ◌≤◌}
use Rattle.cdb_form.proofs.Sources.SourceLemmas.{DigitsSoFar}
use Rattle.cdb_form.proofs.text.source.Source.number.Given as goal

-- the digits so far
abbrev pub invariant-loop-byte : goal.invariant-loop-byte
invariant-loop-byte g l =
    record {
      start : l.start ≡ l.fn.self.taken;
      asks : l.self.asks ≤ l.fn.self.asks;
      spent : budget l.fn.self ≤ budget l.self;
      so_far : DigitsSoFar (g.R.Feeds.feed l.fn.self.reader) (g.R.Feeds.feed l.self.reader) l.greatest l.start l.self.taken l.value;
    }

abbrev pub decreases-loop-byte : goal.decreases-loop-byte
decreases-loop-byte g l = l.self.asks
