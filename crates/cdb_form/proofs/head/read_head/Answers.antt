use Rattle.cdb_form.proofs.Words.{PairFits, Pointer, WordPair, fill_by_all, get_or-map, get_or-set_other, get_or-set_same, head_at, length-map, length-set, nth_pair, pointer_pair}
use Rattle.std.proofs.Common.{◌≡◌, ◌≢◌, ℕ, ◌<◌, ◌+◌, ◌-◌, ◌*◌, length, map, get_or, slice_set, arith, ◌∙◌, below_more, ap}
use Rattle.std.proofs.lemmas.List.Elements.{All-from_get_or, All-map}
use Rattle.cdb_form.proofs.Bytes.WordLemmas.{pair_at_part, span_of}
use Rattle.cdb_form.proofs.head.read_head.Goals as goal

blank : Pointer
blank = record { place = 0; slots = 0 }

pub returns-clause-read : goal.returns-clause-read
unfolding head_at
returns-clause-read g c =
    let ps = c.loop-n.pointers in
    let none : WordPair = record { first = 0; second = 0 } in
    let long : length ps ≡ 256 = omega arith in
    fill_by_all (nth_pair g.L.Width.WORD c.args.from.now) (map pointer_pair ps) 256 none (length-map ps pointer_pair ∙ long)
    (λ k h. get_or-map pointer_pair ps k blank none (omega arith) ∙ c.loop-n.invariant.read k blank (omega arith))

pub returns-clause-fits : goal.returns-clause-fits
returns-clause-fits g c =
    let fits = PairFits g.L.Width.TOP in
    All-map fits pointer_pair c.loop-n.pointers (All-from_get_or (λ p. fits (pointer_pair p)) c.loop-n.pointers blank (λ i h. c.loop-n.invariant.fits i blank (omega arith)))

pub loop-n-preserved : goal.loop-n-preserved
loop-n-preserved g c =
    let w = g.L.Width.WORD in
    let n = c.loop-n.n in
    let ps = c.loop-n.pointers in
    let p = c.read_pointer.result in
    let room : n < length ps = omega arith in
    let at : Pointer → ℕ → Pointer = λ d k. get_or (slice_set ps n p) k d in
    let size : c.pair_size-size.result ≡ 2 * w = c.loop-n.invariant.size in
    let at_n : c.pair_size-size.result * n ≡ 2 * w * n = ap (λ (k : ℕ). k * n) size in
    let long : (c.pair_size-size.result * n + c.pair_size-size.result) - c.pair_size-size.result * n ≡ 2 * w = span_of (c.pair_size-size.result * n) (c.pair_size-size.result) ∙ size in
    let part = pair_at_part w n (c.pair_size-size.result * n) _ c.args.from.now at_n long in
    record {
      long = simp length-set (omega arith);
      size = c.loop-n.invariant.size;
      read = λ k d h. below_more (λ k. (d : Pointer) → pointer_pair (at d k) ≡ nth_pair w c.args.from.now k) n
          (λ k h d. let other : k ≢ n = omega arith in rw get_or-set_other (c.loop-n.invariant.read k d h))
          (λ d. rw get_or-set_same (c.read_pointer.ensures.read ∙ part)) k h d;
      fits = λ k d h. below_more (λ k. (d : Pointer) → PairFits g.L.Width.TOP (pointer_pair (at d k))) n
          (λ k h d. let other : k ≢ n = omega arith in rw get_or-set_other (c.loop-n.invariant.fits k d h))
          (λ d. rw get_or-set_same c.read_pointer.ensures.fits) k h d;
    }
