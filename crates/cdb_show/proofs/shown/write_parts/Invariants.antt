use Rattle.cdb_show.proofs.Words.{Appends, flat_map, shown, take, ◌++◌}
use Rattle.cdb_show.proofs.shown.write_parts.Given as goal

-- the parts so far were written
abbrev pub invariant-loop-text : goal.invariant-loop-text
invariant-loop-text g l = record {
  written : Appends (g.E.Sink.contents l.fn.errors) (g.E.Sink.contents l.errors) (flat_map (λ p. p.0.now ++ shown p.1.now) (take l.text-index l.parts));
  stays : g.E.Sink.failed l.fn.errors → g.E.Sink.failed l.errors;
}
