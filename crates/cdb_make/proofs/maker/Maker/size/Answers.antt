use Rattle.cdb_make.proofs.Words.{marks_in, ap, arith, file_size, gone_in, is_gone, length, length-map, sym, ◌+◌, ◌∙◌, ◌≡◌}
use Rattle.cdb_make.proofs.Looking.{sees_long}
use Rattle.cdb_make.proofs.Rolls.{left_file, slots_fit, two_slots}
use Rattle.cdb_make.proofs.Marking.{marks_long}
use Rattle.cdb_make.proofs.maker.Maker.size.Goals as goal

pub returns-clause-holds : goal.returns-clause-holds
returns-clause-holds g c = λ rs h. record {
  each = λ b is.
      let m = c.args.self.now.roll in
      let held = h.each b is in
      let long = sees_long m held.all b held.sees in
      let many : length (gone_in c.args.self.now) ≡ length held.all = omega (arith, long, length-map (marks_in m) is_gone, (marks_long m)) in
      let file = (left_file m held.all b (gone_in c.args.self.now) c.left_end.result c.left_count.result m.gone.size m.gone.count g.met.L.Width.four_or_eight many held.sees c.left_end.ensures c.left_count.ensures (m.picked.size _ held.sees.of) m.picked.count).0 in
      ap (λ n. c.left_end.result + n) (two_slots g.L.Width.WORD c.pair_size.result c.left_count.result c.pair_size.ensures g.met.L.Width.four_or_eight) ∙ sym file ∙ ap (file_size g.L.Width.WORD) (sym held.left);
}

pub overflow_mul-result-2 : goal.overflow_mul-result-2
overflow_mul-result-2 g c =
    let m = c.args.self.now in
    let slots = slots_fit g.L.Width.WORD c.pair_size.result c.left_count.result (length m.roll.hashes.items) c.pair_size.ensures g.met.L.Width.four_or_eight (omega (arith, c.left_count.ensures)) in
    omega (arith, slots, m.within, m.limited, g.met.L.Width.greatest_fits)

pub overflow_add-result : goal.overflow_add-result
overflow_add-result g c =
    let m = c.args.self.now in
    let slots = slots_fit g.L.Width.WORD c.pair_size.result c.left_count.result (length m.roll.hashes.items) c.pair_size.ensures g.met.L.Width.four_or_eight (omega (arith, c.left_count.ensures)) in
    omega (arith, slots, c.left_end.ensures, m.within, m.limited, g.met.L.Width.greatest_fits)

pub returns-clause-within : goal.returns-clause-within
returns-clause-within g c =
    let m = c.args.self.now in
    let slots = slots_fit g.L.Width.WORD c.pair_size.result c.left_count.result (length m.roll.hashes.items) c.pair_size.ensures g.met.L.Width.four_or_eight (omega (arith, c.left_count.ensures)) in
    omega (arith, slots, c.left_end.ensures, m.within)
