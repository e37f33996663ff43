use Rattle.std.proofs.Common.{ℕ, ◌+◌, ◌*◌, ◌<◌, ◌≤◌, get_or}
use Rattle.cdb_make.proofs.finish.counts.most_of.Given as goal

abbrev pub invariant-loop-group : goal.invariant-loop-group
invariant-loop-group l = (group : ℕ) → group < l.group → get_or l.counts (32 * group + l.n) 0 ≤ l.most
