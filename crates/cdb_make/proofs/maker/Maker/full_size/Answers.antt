use Rattle.std.proofs.Common.{ℕ, ◌*◌, ap, arith}
use Rattle.cdb_make.proofs.Rolls.{two_slots}
use Rattle.cdb_make.proofs.maker.Maker.full_size.Goals as goal

pub overflow_mul-result-2 : goal.overflow_mul-result-2
overflow_mul-result-2 g c =
    let m = c.args.self.now in
    let w : ℕ = g.L.Width.WORD in
    let slots = two_slots w c.pair_size.result c.len.result c.pair_size.ensures g.met.L.Width.four_or_eight in
    omega (arith, slots, ap (λ (v : ℕ). 4 * w * v) c.len.ensures, m.within, m.limited, g.met.L.Width.greatest_fits)
