use Rattle.cdb_make.proofs.Words.{List, ap, of_halves, take, ℕ, ◌∙◌}
use Rattle.cdb_make.proofs.Halves.{halves-take}
use Rattle.cdb_make.proofs.places.Places.truncate.Goals as goal

pub returns-clause-places : goal.returns-clause-places
returns-clause-places g c =
    let s = c.args.self.now in
    ap (λ (v : List ℕ). of_halves v c.truncate-2.new.self.items) c.truncate.ensures.items
    ∙ ap (of_halves (take c.args.n s.lows.items)) c.truncate-2.ensures.items
    ∙ halves-take s.lows.items s.highs.items c.args.n
