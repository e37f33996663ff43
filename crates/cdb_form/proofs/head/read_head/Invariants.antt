use Rattle.cdb_form.proofs.Words.{PairFits, Pointer, get_or, length, nth_pair, pointer_pair, ℕ, ◌*◌, ◌<◌, ◌≡◌}
use Rattle.cdb_form.proofs.head.read_head.Given as goal

-- the pointers so far
abbrev pub invariant-loop-n : goal.invariant-loop-n
invariant-loop-n g l =
    record {
      long : length l.pointers ≡ 256;
      size : l.size ≡ 2 * g.L.Width.WORD;
      read : (k : ℕ) (d : Pointer) → k < l.n → pointer_pair (get_or l.pointers k d) ≡ nth_pair g.L.Width.WORD l.from k;
      fits : (k : ℕ) (d : Pointer) → k < l.n → PairFits g.L.Width.TOP (pointer_pair (get_or l.pointers k d));
    }
