use Rattle.cdb_read.proofs.Words.{IsSearchInside, rules, subst, sym, ℕ}
use Rattle.cdb_read.proofs.lookup.finder.Finder.next.Goals as goal

pub met_from-requires : goal.met_from-requires
met_from-requires g c = record { inside = c.args.self.now.inside c.in-At.probe c.in-At.is; hash = c.args.self.now.hashed }

pub invariant_of-self : goal.invariant_of-self
invariant_of-self g c = record { inside = subst (λ (n : ℕ). IsSearchInside g.L.Width.WORD n c.args.self.now.searching) (sym c.met_from.ensures.reads.size) c.args.self.now.inside; hashed = c.args.self.now.hashed }

pub returns-in-Broken-clause-fails : goal.returns-in-Broken-clause-fails
returns-in-Broken-clause-fails g c = search rules
