use Rattle.cdb_make.proofs.Words.{drop, fold, tag_step, ◌≡◌}
use Rattle.cdb_make.proofs.tags.second_hash.Given as goal

-- the tag so far, and what is left of the eights
abbrev pub invariant-loop-eight : goal.invariant-loop-eight
invariant-loop-eight l = fold (fold tag_step) l.tag (drop l.eight-index l.eights) ≡ fold (fold tag_step) 2166136261 l.eights
