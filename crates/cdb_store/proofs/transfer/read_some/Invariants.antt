use Rattle.cdb_store.proofs.Words.{interrupted, ◌≡◌}
use Rattle.cdb_store.proofs.transfer.read_some.Given as goal

abbrev pub invariant-loop-turn : goal.invariant-loop-turn
invariant-loop-turn g l = g.F.RawFile.calls l.file ≡ interrupted l._turn (g.F.RawFile.calls l.fn.file)
