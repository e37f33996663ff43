use Rattle.cdb_read.proofs.Words.{Counts, [], ap, arith, eq-eqb, false, get_or, ne_eqb, not_from_false, not_from_true, subst, sym, true, ◌++◌, ◌+◌, ◌∙◌, ◌∷◌}
use Rattle.std.specs.Prelude.{min, set}
use Rattle.cdb_read.proofs.Counting.Counters.{counts_more, counts_same}
use Rattle.cdb_read.proofs.statistics.distances.Distances.count.Goals as goal
use Rattle.cdb_read.proofs.statistics.distances.Distances.count.Goals.{then-distance-ne0, else-distance-ne0}

pub returns : goal.returns
returns c = λ ds h.
    let d = c.args.distance in
    let class = c.min-class.result in
    let count = c.saturating_add.result in
    elim c.if-distance-ne0.branch [
      | then-distance-ne0 w ↦
          subst
          (λ s. Counts (record { entries = s.entries; collisions = s.collisions; counts = set s.counts class count }) (ds ++ d ∷ []))
          (sym w.self-is)
          (counts_more c.args.self.now ds d class _ _ count true h (not_from_false _ (ne_eqb d 0 w.if-distance-ne0.true)) c.saturating_add-self.ensures w.saturating_add-self-then-distance-ne0.ensures c.min-class.ensures (omega arith)
          (c.saturating_add.ensures ∙ ap (λ s. min (get_or s.counts class 0 + 1) 18446744073709551615) w.self-is))
      | else-distance-ne0 w ↦
          subst
          (λ s. Counts (record { entries = s.entries; collisions = s.collisions; counts = set s.counts class count }) (ds ++ d ∷ []))
          (sym w.self-is)
          (counts_more c.args.self.now ds d class _ _ count false h (not_from_true _ (eq-eqb d 0 w.if-distance-ne0.false)) c.saturating_add-self.ensures (counts_same c.args.self.now ds h) c.min-class.ensures (omega arith)
          (c.saturating_add.ensures ∙ ap (λ s. min (get_or s.counts class 0 + 1) 18446744073709551615) w.self-is))
    ]
