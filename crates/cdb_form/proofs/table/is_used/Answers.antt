use Rattle.std.proofs.Common.{arith, ℕ, ◌∙◌, ap, refl}
use Rattle.std.specs.Prelude.{not, ◌==◌}
use Rattle.cdb_form.proofs.Slots.SlotBytes.{slot_within, place_word}
use Rattle.cdb_form.proofs.table.is_used.Goals as goal

pub overflow_mul-slot : goal.overflow_mul-slot
overflow_mul-slot g c = omega (arith, slot_within g.L.Width.WORD c.pair_size-size.result c.args.at c.args.bytes.now c.pair_size-size.ensures c.requires)

pub overflow_mul-slot-2 : goal.overflow_mul-slot-2
overflow_mul-slot-2 g c = omega (arith, slot_within g.L.Width.WORD c.pair_size-size.result c.args.at c.args.bytes.now c.pair_size-size.ensures c.requires)

pub overflow_add-slot : goal.overflow_add-slot
overflow_add-slot g c = omega (arith, slot_within g.L.Width.WORD c.pair_size-size.result c.args.at c.args.bytes.now c.pair_size-size.ensures c.requires)

pub slice_bounds-slot-end : goal.slice_bounds-slot-end
slice_bounds-slot-end g c = omega (arith, slot_within g.L.Width.WORD c.pair_size-size.result c.args.at c.args.bytes.now c.pair_size-size.ensures c.requires)

pub returns : goal.returns
returns g c = ap (λ (word : ℕ). not (word == 0)) (c.read_word.ensures.number ∙ place_word g.L.Width.WORD c.pair_size-size.result c.args.at c.WORD.result c.args.bytes.now _ c.pair_size-size.ensures c.WORD.ensures c.requires refl)
