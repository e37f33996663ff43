use Rattle.cdb_form.proofs.Words.{drop, fold, hash_step, ◌≡◌}
use Rattle.cdb_form.proofs.key_hash.hash_more.Given as goal

-- the hash so far, and what is left of the eights
abbrev pub invariant-loop-eight : goal.invariant-loop-eight
invariant-loop-eight l =
    fold (fold hash_step) l.hash (drop l.eight-index l.eights) ≡ fold (fold hash_step) l.fn.hash l.eights
