use Rattle.cdb_make.proofs.Words.{drop, fold, tag_step, ◌≡◌}
use Rattle.cdb_make.proofs.tags.tag_each.Given as goal

-- the tag so far, and what is left of the bytes
abbrev pub invariant-loop-byte : goal.invariant-loop-byte
invariant-loop-byte l = fold tag_step l.tag (drop l.byte-index l.bytes) ≡ fold tag_step l.fn.tag l.bytes
