use Rattle.std.proofs.Common.{length, arith, ◌≡◌, ◌+◌, ◌*◌, ℕ, ap, sym, ◌∙◌}
use Rattle.cdb_make.proofs.Rolls.{slots_fit, two_slots, slots_add}
use Rattle.cdb_make.proofs.maker.Maker.kept_size.Goals as goal

pub overflow_mul-result-2 : goal.overflow_mul-result-2
overflow_mul-result-2 g c =
    let m = c.args.self.now in
    let slots = slots_fit g.L.Width.WORD c.pair_size.result c.kept_count.result (length m.roll.hashes.items) c.pair_size.ensures g.met.L.Width.four_or_eight (omega (arith, c.kept_count.ensures)) in
    omega (arith, slots, m.within, m.limited, g.met.L.Width.greatest_fits)

pub overflow_add-result : goal.overflow_add-result
overflow_add-result g c =
    let m = c.args.self.now in
    let slots = slots_fit g.L.Width.WORD c.pair_size.result c.kept_count.result (length m.roll.hashes.items) c.pair_size.ensures g.met.L.Width.four_or_eight (omega (arith, c.kept_count.ensures)) in
    omega (arith, slots, c.kept_end.ensures, m.within, m.limited, g.met.L.Width.greatest_fits)

pub returns-clause-is : goal.returns-clause-is
returns-clause-is g c =
    let w : ℕ = g.L.Width.WORD in
    let m = c.args.self.now.roll in
    let slots = two_slots w c.pair_size.result c.kept_count.result c.pair_size.ensures g.met.L.Width.four_or_eight in
    let all : 4 * w * length m.hashes.items ≡ 4 * w * c.kept_count.result + 4 * w * (m.gone.count + m.found.count) = ap (λ (v : ℕ). 4 * w * v) (sym c.kept_count.ensures) ∙ slots_add w c.kept_count.result (m.gone.count + m.found.count) g.met.L.Width.four_or_eight in
    omega (arith, slots, all, c.kept_end.ensures)

pub returns-clause-within : goal.returns-clause-within
returns-clause-within g c =
    let m = c.args.self.now in
    let slots = slots_fit g.L.Width.WORD c.pair_size.result c.kept_count.result (length m.roll.hashes.items) c.pair_size.ensures g.met.L.Width.four_or_eight (omega (arith, c.kept_count.ensures)) in
    omega (arith, slots, c.kept_end.ensures, m.within)
