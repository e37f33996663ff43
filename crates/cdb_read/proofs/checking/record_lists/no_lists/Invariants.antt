use Rattle.cdb_read.proofs.Words.{All, Marks, [], length, ◌≡◌}
use Rattle.cdb_read.proofs.checking.record_lists.no_lists.Given as goal

-- so many lists, without records
abbrev pub invariant-loop : goal.invariant-loop
invariant-loop l = record {
  many : length l.lists.items ≡ l.counter;
  none : All (λ e. Marks e [] []) l.lists.items;
}
