use Rattle.cdb_read.proofs.Words.{map, pointer_pair}
use Rattle.cdb_read.proofs.Checks.TableChecks.{StandBefore}
use Rattle.cdb_read.proofs.tables.first_outside.Given as goal

-- the tables so far are inside
abbrev pub invariant-loop-n : goal.invariant-loop-n
invariant-loop-n g l = record { inside : StandBefore g.L.Width.WORD l.size l.n (map pointer_pair l.tables) }
