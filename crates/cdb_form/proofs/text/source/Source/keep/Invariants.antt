use Rattle.cdb_form.proofs.Words.{AreBytes, List, ℕ, ◌∷◌, ◌≡◌}
use Rattle.cdb_form.proofs.MapTexts.MapReads.{RunSoFar}
use Rattle.cdb_form.proofs.text.source.Source.keep.Given as goal

-- the bytes so far are of the kind, and kept
abbrev pub invariant-loop-self : goal.invariant-loop-self
invariant-loop-self g l =
    record {
      run : (bytes : List ℕ) × (l.into.items ≡ l.first ∷ bytes) × RunSoFar l.kind g.R.Feeds.feed l.fn.self l.self bytes;
      are : AreBytes l.into.items;
    }

abbrev pub decreases-loop-self : goal.decreases-loop-self
decreases-loop-self g l = l.self.asks
