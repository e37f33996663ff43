use Rattle.cdb_make.proofs.Words.{AreChained, gone_of, length}
use Rattle.cdb_make.proofs.chains.Chains.cut.Given as goal

abbrev pub invariant-loop-self : goal.invariant-loop-self
invariant-loop-self l = AreChained l.self.heads.items l.self.before.items l.hashes (gone_of l.marks)

abbrev pub decreases-loop-self : goal.decreases-loop-self
decreases-loop-self l = length l.self.before.items
