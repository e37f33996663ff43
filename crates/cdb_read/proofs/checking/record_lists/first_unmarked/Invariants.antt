use Rattle.cdb_read.proofs.Checks.Earliest.{IsFirstOf}
use Rattle.cdb_read.proofs.checking.record_lists.first_unmarked.Given as goal

-- the first one of the lists so far
abbrev pub invariant-loop-list : goal.invariant-loop-list
invariant-loop-list l = IsFirstOf l.lists l.list-index l.first
