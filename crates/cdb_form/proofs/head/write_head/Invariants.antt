use Rattle.cdb_form.proofs.Words.{drop, flat_map, length, map, pair_bytes, pointer_pair, take, ◌*◌, ◌++◌, ◌≡◌}
use Rattle.cdb_form.proofs.head.write_head.Given as goal

-- what is written so far, and what follows it
abbrev pub invariant-loop-n : goal.invariant-loop-n
invariant-loop-n g l =
    record {
      size : l.size ≡ 2 * g.L.Width.WORD;
      long : length l.into ≡ 512 * g.L.Width.WORD;
      written : l.into ≡ flat_map (pair_bytes g.L.Width.WORD) (map pointer_pair (take l.n l.head.pointers)) ++ drop (2 * g.L.Width.WORD * l.n) l.fn.into;
    }
