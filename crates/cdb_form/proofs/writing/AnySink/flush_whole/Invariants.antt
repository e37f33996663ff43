use Rattle.std.specs.Io.KnownBytes.{Keeps}
use Rattle.cdb_form.proofs.writing.AnySink.flush_whole.Given as goal

-- the bytes are those of the beginning
abbrev pub invariant-loop : goal.invariant-loop
invariant-loop g l = Keeps (g.W.Write.contents l.fn.self) (g.W.Write.contents l.self)
