use Rattle.std.proofs.Common.{List, ℕ}
use Rattle.cdb_form.proofs.MapTexts.MapReads.{RunSoFar}
use Rattle.cdb_form.proofs.text.source.Source.pass.Given as goal

-- the bytes so far are of the kind
abbrev pub invariant-loop-byte : goal.invariant-loop-byte
invariant-loop-byte g l = (bytes : List ℕ) × RunSoFar l.kind g.R.Feeds.feed l.fn.self l.self bytes

abbrev pub decreases-loop-byte : goal.decreases-loop-byte
decreases-loop-byte g l = l.self.asks
