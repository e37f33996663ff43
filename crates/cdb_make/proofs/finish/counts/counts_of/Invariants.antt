use Rattle.cdb_make.proofs.Words.{length, map, roll_entries, tables_of, take, ◌≡◌}
use Rattle.cdb_make.proofs.finish.counts.counts_of.Given as goal

-- the entries so far are counted
abbrev pub invariant-loop-n : goal.invariant-loop-n
invariant-loop-n g l = l.counts ≡ map length (tables_of (take l.n (roll_entries l.roll)) 0 256)
