use Rattle.cdb_read.proofs.DifferenceWords.{Grows, List, OnlyReads, left_from, size_ahead, ℕ}
use Rattle.cdb_read.proofs.Steps.{Passed}
use Rattle.cdb_read.proofs.difference.in_step.mark_left.Given as goal

-- the keys so far are marked
abbrev pub invariant-loop-pair : goal.invariant-loop-pair
invariant-loop-pair g l =
    record {
      reads : OnlyReads g.S.Store l.fn.reader.store l.reader.store;
      grows : Grows l.fn.marks.words.items l.marks.words.items;
      passed : (b : List ℕ) → g.S.Store.image l.reader.store b → Passed l.marks.words.items (left_from g.L.Width.WORD b l.fn.from) (left_from g.L.Width.WORD b l.bookmark);
    }

abbrev pub decreases-loop-pair : goal.decreases-loop-pair
decreases-loop-pair g l = size_ahead l.bookmark.walking
