use Rattle.std.specs.Io.KnownBytes.{Keeps}
use Rattle.cdb_form.proofs.writing.AnySink.write_some.Given as goal

-- nothing was written yet
abbrev pub invariant-loop : goal.invariant-loop
invariant-loop g l = Keeps (g.W.Write.contents l.fn.self) (g.W.Write.contents l.self)
