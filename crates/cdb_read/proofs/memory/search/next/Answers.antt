use Rattle.std.proofs.Common.{◌∙◌, refl, sym, ap}
use Rattle.cdb_read.specs.Lookup.{with_span}
use Rattle.cdb_read.specs.Views.Search.{found_ahead}
use Rattle.cdb_read.specs.declared.lookup.probe.Searching.TheVariants.{At}
use Rattle.cdb_read.specs.declared.lookup.probe.Probe.{Probe}
use Rattle.cdb_read.proofs.Probing.Searches.{none_left}
use Rattle.cdb_read.specs.Memory.{probe_of}
use Rattle.cdb_read.proofs.memory.search.next.Goals as goal

pub returns-then-search-eq0-clause-gives : goal.returns-then-search-eq0-clause-gives
returns-then-search-eq0-clause-gives g c = λ is. record {
  none = none_left g.L.Width.WORD c.args.file.now c.args.key.now (probe_of c.args.search.now) c.if-search-eq0.true;
  ended = c.if-search-eq0.true;
  hash = refl;
}

pub returns-in-End-clause-gives : goal.returns-in-End-clause-gives
returns-in-End-clause-gives g c = λ is. record {
  none = ap (λ (t : Probe). found_ahead g.L.Width.WORD c.args.file.now c.args.key.now (At t)) (sym c.probe-probe.ensures) ∙ (c.in-End.ensures.meets is).each c.args.file.now refl;
  ended = refl;
  hash = refl;
}

pub returns-in-Value-clause-gives : goal.returns-in-Value-clause-gives
returns-in-Value-clause-gives g c = λ is. record {
  first = ap (λ (t : Probe). found_ahead g.L.Width.WORD c.args.file.now c.args.key.now (At t)) (sym c.probe-probe.ensures)
      ∙ (c.in-Value.ensures.meets is).each c.args.file.now refl
      ∙ ap (λ (t : Probe). with_span c.in-Value.span (found_ahead g.L.Width.WORD c.args.file.now c.args.key.now (At t))) (sym c.at.ensures.probe);
}

pub returns-in-Broken-clause-damaged : goal.returns-in-Broken-clause-damaged
returns-in-Broken-clause-damaged g c = λ is inside.
    ap (λ (t : Probe). found_ahead g.L.Width.WORD c.args.file.now c.args.key.now (At t)) (sym c.probe-probe.ensures) ∙ (c.in-Broken.ensures.meets is).each c.args.file.now refl
