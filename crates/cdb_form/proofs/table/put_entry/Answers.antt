use Rattle.cdb_form.proofs.Words.{AreRuns, List, WordPair, arith, slice_set, slots_in, subst, sym, ℕ, ◌∙◌}
use Rattle.cdb_form.specs.Views.Pairs.{slot_pair}
use Rattle.cdb_form.proofs.Slots.Filling.{entry_put}
use Rattle.cdb_form.proofs.Slots.RunLemmas.{runs_filled, runs_unknown}
use Rattle.cdb_form.proofs.Slots.SlotBytes.{slot_within, slots_in-put}
use Rattle.cdb_form.proofs.table.put_entry.Goals.{then-is_used, else-is_used}
use Rattle.cdb_form.proofs.table.put_entry.Goals as goal

pub overflow_mul-size : goal.overflow_mul-size
overflow_mul-size g c = omega (arith, slot_within g.L.Width.WORD c.pair_size-size.result c.first_empty-place.result c.args.bytes.now c.pair_size-size.ensures c.first_empty-place.ensures.within)

pub overflow_mul-size-2 : goal.overflow_mul-size-2
overflow_mul-size-2 g c = omega (arith, slot_within g.L.Width.WORD c.pair_size-size.result c.first_empty-place.result c.args.bytes.now c.pair_size-size.ensures c.first_empty-place.ensures.within)

pub overflow_add-size : goal.overflow_add-size
overflow_add-size g c = omega (arith, slot_within g.L.Width.WORD c.pair_size-size.result c.first_empty-place.result c.args.bytes.now c.pair_size-size.ensures c.first_empty-place.ensures.within)

pub slice_bounds-write_slot-end : goal.slice_bounds-write_slot-end
slice_bounds-write_slot-end g c = omega (arith, slot_within g.L.Width.WORD c.pair_size-size.result c.first_empty-place.result c.args.bytes.now c.pair_size-size.ensures c.first_empty-place.ensures.within)

pub returns-clause-put : goal.returns-clause-put
returns-clause-put g c =
    let slots : List WordPair = slots_in g.L.Width.WORD c.args.bytes.now in
    let set = slots_in-put g.L.Width.WORD c.pair_size-size.result c.first_empty-place.result c.args.bytes.now c.write_slot.new.into (slot_pair c.args.entry) c.pair_size-size.ensures c.first_empty-place.ensures.within c.write_slot.ensures.written c.write_slot.ensures.read_back in
    set ∙ entry_put slots (slot_pair c.args.entry) _ _ _ c.requires.long c.home_slot-home.ensures.slot c.first_empty-place.ensures.first

pub returns-clause-runs : goal.returns-clause-runs
returns-clause-runs g c =
    let slots : List WordPair = slots_in g.L.Width.WORD c.args.bytes.now in
    let place : ℕ = c.first_empty-place.result in
    let set = slots_in-put g.L.Width.WORD c.pair_size-size.result place c.args.bytes.now c.write_slot.new.into (slot_pair c.args.entry) c.pair_size-size.ensures c.first_empty-place.ensures.within c.write_slot.ensures.written c.write_slot.ensures.read_back in
    let runs : AreRuns c.if-is_used.runs (slice_set slots place (slot_pair c.args.entry)) = elim c.if-is_used.branch [
      | then-is_used w ↦ runs_unknown _ (slice_set slots place (slot_pair c.args.entry)) c.if-is_used.runs (w.runs-is ∙ w.fill.ensures.after (λ y e. e))
      | else-is_used w ↦ subst (λ r. AreRuns r (slice_set slots place (slot_pair c.args.entry))) (sym w.runs-is)
          (runs_filled slots c.first_empty-place.new.runs place (slot_pair c.args.entry) (omega (arith, c.first_empty-place.auto.runs, c.requires.long, c.first_empty-place.ensures.within)) (sym c.is_used.ensures ∙ w.if-is_used.false) c.first_empty-place.ensures.runs)
    ] in
    subst (AreRuns c.if-is_used.runs) (sym set) runs
