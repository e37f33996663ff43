use Rattle.cdb_form.proofs.Words.{drop, fold, hash_step, ◌≡◌}
use Rattle.cdb_form.proofs.key_hash.hash_each.Given as goal

-- the hash so far, and what is left of the bytes
abbrev pub invariant-loop-byte : goal.invariant-loop-byte
invariant-loop-byte l =
    fold hash_step l.hash (drop l.byte-index l.bytes) ≡ fold hash_step l.fn.hash l.bytes
