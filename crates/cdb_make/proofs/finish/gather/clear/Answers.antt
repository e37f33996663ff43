use Rattle.cdb_make.proofs.Words.{[], ap, arith, cases_eq, gathered_in, gathered_room, get_or, inl, inr, length-set, map, map-set_same, slice_set, ℕ, ◌∙◌, ◌≡◌}
use Rattle.cdb_make.proofs.Gathered.{told_here, told_there}
use Rattle.cdb_make.proofs.finish.gather.clear.Goals as goal

pub loop-n-preserved : goal.loop-n-preserved
loop-n-preserved g c =
    let ls = c.loop-n.gathered in
    let n : ℕ = c.loop-n.n in
    let new = c.clear.new.self in
    let empty : gathered_in new ≡ [] = c.clear.ensures.none in
    record {
      none = λ k lt. elim (cases_eq k n) [
        | inl here ↦ ap (λ (j : ℕ). get_or (map gathered_in (slice_set ls n new)) j []) here ∙ told_here gathered_in ls n new [] (omega arith) ∙ empty
        | inr apart ↦ told_there gathered_in ls n k new [] apart ∙ c.loop-n.invariant.none k (omega arith)
      ];
      rooms = map-set_same gathered_room ls n new c.index-gathered-n.result c.clear.ensures.room ∙ c.loop-n.invariant.rooms;
      long = length-set ls n new ∙ c.loop-n.invariant.long;
    }
