use Rattle.cdb_read.proofs.DifferenceWords.{List, ReadBoth, left_from, next_place, size_ahead, walk_of, ℕ, ◌≡◌}
use Rattle.cdb_read.proofs.PassSteps.{PassSoFar}
use Rattle.cdb_read.proofs.difference.pass.write_pass.Given as goal

-- what the difference says of the keys so far was written
abbrev pub invariant-loop-key : goal.invariant-loop-key
invariant-loop-key g l =
    record {
      reads : ReadBoth l.fn.own l.own l.fn.other l.other;
      walked : (b : List ℕ) → g.S.Store.image l.own.store b → (walk_of g.L.Width.WORD b).damage ≡ (left_from g.L.Width.WORD b l.bookmark).damage;
      passed : (b c : List ℕ) → g.S.Store.image l.own.store b → g.T.Store.image l.other.store c
          → PassSoFar g.L.Width.WORD l.kind b c (left_from g.L.Width.WORD b l.bookmark) (next_place g.L.Width.WORD l.bookmark.walking) (g.W.Sink.contents l.fn.w) (g.W.Sink.contents l.w);
    }

abbrev pub decreases-loop-key : goal.decreases-loop-key
decreases-loop-key g l = size_ahead l.bookmark.walking
