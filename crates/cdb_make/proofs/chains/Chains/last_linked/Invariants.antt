use Rattle.cdb_make.proofs.Words.{all_marks, Reaches, gone_of, length}
use Rattle.cdb_make.proofs.chains.Chains.last_linked.Given as goal

abbrev pub invariant-loop-at : goal.invariant-loop-at
invariant-loop-at l = Reaches (length l.self.heads.items) l.hash l.hashes (gone_of (all_marks (length l.hashes) l.marks)) (length l.self.before.items) l.end l.at

abbrev pub decreases-loop-at : goal.decreases-loop-at
decreases-loop-at l = l.at
