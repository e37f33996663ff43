use Rattle.cdb_make.proofs.Words.{List, WordPair, length, map, pointer_pair, pointers_from, slots_of, sum, take, ◌*◌, ◌+◌, ◌≡◌}
use Rattle.cdb_make.proofs.finish.head.head_of.Given as goal

-- the pointers so far, and the place of the next table
abbrev pub invariant-loop-n : goal.invariant-loop-n
invariant-loop-n g l =
    record {
      long : length l.pointers ≡ 256;
      place : l.place ≡ l.end + 4 * g.L.Width.WORD * sum (take l.n l.counts);
      so_far : (tables : List (List WordPair)) → l.counts ≡ map length tables
          → map pointer_pair (take l.n l.pointers) ≡ pointers_from g.L.Width.WORD l.end (map slots_of (take l.n tables));
    }
