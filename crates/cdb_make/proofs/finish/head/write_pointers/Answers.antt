use Rattle.cdb_make.proofs.Words.{All-same, List, PairFits, WordPair, ap, arith, length, map, sum, sum_by, ℕ, ◌*◌, ◌+◌, ◌∙◌, ◌≡◌, ◌≤◌}
use Rattle.cdb_form.proofs.Files.Sizes.{pointers_fit}
use Rattle.cdb_make.proofs.Slots.Counts.{lists_of, lengths_of, sum_lengths}
use Rattle.cdb_make.proofs.finish.head.write_pointers.Goals as goal

pub write_head-requires-clause-fits : goal.write_head-requires-clause-fits
write_head-requires-clause-fits g c =
    let ns : List ℕ = c.args.counts.now in
    let ls : List (List WordPair) = lists_of ns in
    let is : ns ≡ map length ls = lengths_of ns in
    let same : sum ns ≡ sum_by length ls = ap sum is ∙ sum_lengths ls in
    let total : 4 * g.L.Width.WORD * sum ns ≡ 4 * g.L.Width.WORD * sum_by length ls = ap (λ (n : ℕ). 4 * g.L.Width.WORD * n) same in
    let limit : c.args.end + 4 * g.L.Width.WORD * sum_by length ls ≤ g.L.Width.TOP = omega (arith, total, c.requires.limit, g.met.L.Width.greatest_fits.0) in
    All-same (PairFits g.L.Width.TOP) _ _ (c.head_of-head.ensures ls is) (pointers_fit g.L.Width.WORD c.args.end g.L.Width.TOP ls g.met.L.Width.four_or_eight limit)
