use Rattle.cdb_make.proofs.Words.{List, WordPair, [], ap, arith, get_or, get_or-map, get_or_default, length, length-map, length-set, map, pointer_pair, pointers_from, refl, slots_of, slots_within, sum, sum_by, sym, take, take-map, take_all, ℕ, ◌*◌, ◌+◌, ◌<◌, ◌∙◌, ◌≡◌}
use Rattle.cdb_make.proofs.Slots.HeadPointers.{pointers_none, pointers_next}
use Rattle.cdb_make.proofs.Slots.Counts.{counts_more, counts_within, sum_lengths}
use Rattle.cdb_make.proofs.finish.head.head_of.Goals as goal

pub loop-n-init : goal.loop-n-init
loop-n-init g c = record { long = refl; place = omega arith; so_far = λ tables is. pointers_none g.L.Width.WORD c.args.end }

pub loop-n-preserved : goal.loop-n-preserved
loop-n-preserved g c =
    let ns : List ℕ = c.args.counts.now in
    let i : ℕ = c.loop-n.n in
    let x : ℕ = get_or ns i 0 in
    let w : ℕ = g.L.Width.WORD in
    let lt : i < length ns = omega arith in
    let more = counts_more (4 * w) ns i lt in
    let e : c.pair_size-size.result * (2 * x) ≡ 4 * w * x = ap (λ (k : ℕ). k * (2 * x)) c.pair_size-size.ensures ∙ omega arith in
    record {
      long = simp length-set c.loop-n.invariant.long;
      place = omega (arith, e, more, c.loop-n.invariant.place);
      so_far = λ tables is.
          let many : length ns ≡ length tables = ap length is ∙ length-map tables length in
          let t : List WordPair = get_or tables i [] in
          let here : x ≡ length t = ap (λ (v : List ℕ). get_or v i 0) is ∙ get_or-map length tables i [] 0 (omega (arith, many)) in
          let sums : sum (take i ns) ≡ sum_by length (take i tables) = ap (λ (v : List ℕ). sum (take i v)) is ∙ ap sum (take-map length i tables) ∙ sum_lengths (take i tables) in
          let at : c.loop-n.place ≡ c.args.end + 4 * w * sum_by length (take i tables) = c.loop-n.invariant.place ∙ ap (λ (n : ℕ). c.args.end + 4 * w * n) sums in
          pointers_next w c.args.end tables c.loop-n.pointers i c.loop-n.place (2 * x) t (omega (arith, many)) (omega (arith, c.loop-n.invariant.long)) (get_or_default tables i [] t (omega (arith, many))) at (omega (arith, here)) (c.loop-n.invariant.so_far tables is);
    }

pub overflow_mul-place : goal.overflow_mul-place
overflow_mul-place g c =
    let ns : List ℕ = c.args.counts.now in
    let x : ℕ = get_or ns c.loop-n.n 0 in
    let e : c.pair_size-size.result * (2 * x) ≡ 4 * g.L.Width.WORD * x = ap (λ (k : ℕ). k * (2 * x)) c.pair_size-size.ensures ∙ omega arith in
    omega (arith, e, counts_within (4 * g.L.Width.WORD) ns c.loop-n.n (omega arith), c.requires.limit, g.met.L.Width.greatest_fits.1)

pub overflow_add-place : goal.overflow_add-place
overflow_add-place g c =
    let ns : List ℕ = c.args.counts.now in
    let x : ℕ = get_or ns c.loop-n.n 0 in
    let e : c.pair_size-size.result * (2 * x) ≡ 4 * g.L.Width.WORD * x = ap (λ (k : ℕ). k * (2 * x)) c.pair_size-size.ensures ∙ omega arith in
    omega (arith, e, counts_within (4 * g.L.Width.WORD) ns c.loop-n.n (omega arith), c.requires.limit, c.loop-n.invariant.place, g.met.L.Width.greatest_fits.1)

pub overflow_mul-slots : goal.overflow_mul-slots
overflow_mul-slots g c =
    let ns : List ℕ = c.args.counts.now in
    let x : ℕ = get_or ns c.loop-n.n 0 in
    omega (arith, slots_within g.L.Width.WORD x g.met.L.Width.four_or_eight, counts_within (4 * g.L.Width.WORD) ns c.loop-n.n (omega arith), c.requires.limit, g.met.L.Width.greatest_fits.1)

pub returns : goal.returns
returns g c =
    let ns : List ℕ = c.args.counts.now in
    λ tables is.
    let many : length ns ≡ length tables = ap length is ∙ length-map tables length in
    let ps : map pointer_pair (take c.loop-n.n c.loop-n.pointers) ≡ pointers_from g.L.Width.WORD c.args.end (map slots_of (take c.loop-n.n tables)) = c.loop-n.invariant.so_far tables is in
    ap (map pointer_pair) (sym (take_all c.loop-n.n c.loop-n.pointers (omega (arith, c.loop-n.invariant.long)))) ∙ ps ∙ ap (λ v. pointers_from g.L.Width.WORD c.args.end (map slots_of v)) (take_all c.loop-n.n tables (omega (arith, many)))
