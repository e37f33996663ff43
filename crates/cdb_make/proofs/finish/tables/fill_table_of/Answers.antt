use Rattle.std.proofs.Common.{length-take-le, arith, ◌≡◌, ◌∙◌, ◌*◌, ℕ, List, length, replicate, flat_map, ap}
use Rattle.cdb_make.proofs.Words.{WordPair, empty_slot, filled_slots, gathered_in, pair_bytes, slots_in, take_all}
use Rattle.cdb_form.specs.Views.Pairs.{slot_pair}
use Rattle.cdb_form.proofs.Slots.Filling.{filled_nothing, filled_next}
use Rattle.cdb_form.proofs.Slots.RunLemmas.{runs_none}
use Rattle.cdb_form.proofs.Slots.SlotBytes.{count_slots, slots_in-zeros, bytes_of-slots_in}
use Rattle.cdb_make.proofs.finish.tables.fill_table_of.Goals as goal

pub loop-n-init : goal.loop-n-init
loop-n-init g c =
    let n : ℕ = 2 * length (gathered_in c.args.list.now) in
    let w : ℕ = g.L.Width.WORD in
    let empty : slots_in w c.fill.new.self ≡ replicate n empty_slot = ap (slots_in w) (c.fill.ensures.after (λ y e. e)) ∙ slots_in-zeros w n (length c.args.bytes.now) g.met.L.Width.four_or_eight c.requires.bytes in
    record {
      long = omega (arith, c.requires.bytes, c.fill.ensures.len);
      noted = length-take-le _ c.args.runs.now (omega (arith, c.len.ensures, c.requires.runs)) ∙ ap (λ (l : ℕ). 2 * l) c.len.ensures;
      bytes = λ k. (c.type_inv.bytes k).fits;
      runs = runs_none n (slots_in w c.fill.new.self) _ empty;
      filled = filled_nothing n (slots_in w c.fill.new.self) empty;
    }

pub put_entry-requires-clause-some : goal.put_entry-requires-clause-some
put_entry-requires-clause-some g c = omega (arith, count_slots g.L.Width.WORD (2 * length (gathered_in c.args.list.now)) c.loop-n.bytes g.met.L.Width.four_or_eight c.loop-n.invariant.long)

pub put_entry-requires-clause-long : goal.put_entry-requires-clause-long
put_entry-requires-clause-long g c = omega (arith, c.loop-n.invariant.noted, count_slots g.L.Width.WORD (2 * length (gathered_in c.args.list.now)) c.loop-n.bytes g.met.L.Width.four_or_eight c.loop-n.invariant.long)

pub loop-n-preserved : goal.loop-n-preserved
loop-n-preserved g c =
    let es : List WordPair = gathered_in c.args.list.now in
    record {
      long = omega (arith, c.put_entry.auto.bytes, c.loop-n.invariant.long);
      filled = filled_next _ c.loop-n.n (slots_in g.L.Width.WORD c.loop-n.bytes) es (slot_pair c.entry.result) _ (omega arith) c.entry.ensures.entry c.loop-n.invariant.filled c.put_entry.ensures.put;
      noted = omega (arith, c.put_entry.auto.runs, c.loop-n.invariant.noted);
      bytes = λ k. (c.type_inv.bytes k).fits;
      runs = c.put_entry.ensures.runs;
    }

pub returns : goal.returns
returns g c =
    let es : List WordPair = gathered_in c.args.list.now in
    let w : ℕ = g.L.Width.WORD in
    let filled : slots_in w c.loop-n.bytes ≡ filled_slots (2 * length es) es = c.loop-n.invariant.filled ∙ ap (filled_slots (2 * length es)) (take_all c.loop-n.n es (omega arith)) in
    record { filled = bytes_of-slots_in w (2 * length es) c.loop-n.bytes g.met.L.Width.four_or_eight c.loop-n.invariant.long c.loop-n.invariant.bytes ∙ ap (flat_map (pair_bytes w)) filled }
