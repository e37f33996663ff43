use Rattle.std.proofs.Common.{◌≡◌, ◌≤◌, ◌-◌, length, vec_capacity}
use Rattle.cdb_make.proofs.Words.{all_marks, AreChained, gone_of}
use Rattle.cdb_make.proofs.chains.Chains.link_up_to.Given as goal

abbrev pub invariant-loop-self : goal.invariant-loop-self
invariant-loop-self l = record {
  chained : AreChained l.self.heads.items l.self.before.items l.hashes (gone_of (all_marks (length l.hashes) l.marks));
  within : length l.self.before.items ≤ l.most;
  wide : length l.self.heads.items ≡ length l.fn.self.heads.items;
  capacity : vec_capacity l.self.before ≡ vec_capacity l.fn.self.before;
}

abbrev pub decreases-loop-self : goal.decreases-loop-self
decreases-loop-self l = l.most - length l.self.before.items
