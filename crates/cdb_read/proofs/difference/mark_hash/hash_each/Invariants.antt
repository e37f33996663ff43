use Rattle.std.proofs.Common.{◌≡◌, drop, fold}
use Rattle.cdb_read.specs.Differing.{mark_step}
use Rattle.cdb_read.proofs.difference.mark_hash.hash_each.Given as goal

-- the hash so far, and what is left of the bytes
abbrev pub invariant-loop-byte : goal.invariant-loop-byte
invariant-loop-byte l =
    fold mark_step l.hash (drop l.byte-index l.bytes) ≡ fold mark_step l.fn.hash l.bytes
