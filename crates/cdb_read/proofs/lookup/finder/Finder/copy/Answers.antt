use Rattle.cdb_read.proofs.Words.{IsSearchInside, subst, sym, ℕ}
use Rattle.cdb_read.proofs.lookup.finder.Finder.copy.Goals as goal

pub invariant_of-self : goal.invariant_of-self
invariant_of-self g c = record { inside = subst (λ (n : ℕ). IsSearchInside g.L.Width.WORD n c.args.self.now.searching) (sym c.copy.ensures.reads.size) c.args.self.now.inside; hashed = c.args.self.now.hashed }
