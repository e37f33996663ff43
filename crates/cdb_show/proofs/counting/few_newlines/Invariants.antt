use Rattle.cdb_show.proofs.Words.{newlines, take, ◌≡◌}
use Rattle.cdb_show.proofs.counting.few_newlines.Given as goal

-- those of the bytes so far were counted
abbrev pub invariant-loop-byte : goal.invariant-loop-byte
invariant-loop-byte l = l.count ≡ newlines (take l.byte-index l.fn.bytes)
