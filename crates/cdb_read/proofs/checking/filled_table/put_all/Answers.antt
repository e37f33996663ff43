use Rattle.cdb_read.proofs.Words.{List, WordPair, ap, arith, empty_slot, entry_pairs, filled_slots, length, length-replicate, pair_size, refl, replicate, slot_pair, slots_in, take_all, ℕ, ◌*◌, ◌∙◌, ◌≡◌}
use Rattle.cdb_form.proofs.Slots.Filling.{filled_nothing, filled_next}
use Rattle.cdb_form.proofs.Slots.RunLemmas.{runs_none}
use Rattle.cdb_form.proofs.Slots.SlotBytes.{count_slots, slots_in-zeros}
use Rattle.cdb_read.proofs.Checks.Entered.{length-entries_of}
use Rattle.cdb_read.proofs.Checks.FilledChecks.{slot_there}
use Rattle.cdb_read.proofs.checking.filled_table.put_all.Goals as goal

pub loop-k-init : goal.loop-k-init
loop-k-init g c =
    let e = c.args.entries.now in
    let w : ℕ = g.L.Width.WORD in
    let long = length-entries_of e.places.items e.hashes.items e.paired in
    let count : ℕ = 2 * length e.places.items in
    let size : ℕ = pair_size w * count in
    let same : 2 * length e.places.items ≡ 2 * length (entry_pairs e) = omega arith in
    let empty : slots_in w c.args.bytes.now ≡ replicate (2 * length (entry_pairs e)) empty_slot = ap (slots_in w) c.requires.bytes ∙ slots_in-zeros w count size g.met.L.Width.four_or_eight refl ∙ ap (λ n. replicate n empty_slot) same in
    record {
      long = ap length c.requires.bytes ∙ length-replicate size 0;
      filled = filled_nothing (2 * length (entry_pairs e)) (slots_in w c.args.bytes.now) empty;
      noted = c.requires.runs;
      runs = runs_none (2 * length (entry_pairs e)) (slots_in w c.args.bytes.now) _ empty;
    }

pub put_entry-requires-clause-some : goal.put_entry-requires-clause-some
put_entry-requires-clause-some g c = omega (arith, count_slots g.L.Width.WORD (2 * length c.args.entries.now.places.items) c.loop-k.bytes g.met.L.Width.four_or_eight c.loop-k.invariant.long)

pub put_entry-requires-clause-long : goal.put_entry-requires-clause-long
put_entry-requires-clause-long g c = omega (arith, c.loop-k.invariant.noted, count_slots g.L.Width.WORD (2 * length c.args.entries.now.places.items) c.loop-k.bytes g.met.L.Width.four_or_eight c.loop-k.invariant.long)

pub loop-k-preserved : goal.loop-k-preserved
loop-k-preserved g c =
    let e = c.args.entries.now in
    let es : List WordPair = entry_pairs e in
    let long = length-entries_of e.places.items e.hashes.items e.paired in
    record {
      long = omega (arith, c.put_entry.auto.bytes, c.loop-k.invariant.long);
      filled = filled_next _ c.loop-k.k (slots_in g.L.Width.WORD c.loop-k.bytes) es (slot_pair c.slot.result) _ (omega arith) (slot_there e c.loop-k.k c.slot.result (omega arith) c.slot.ensures.place c.slot.ensures.hash) c.loop-k.invariant.filled c.put_entry.ensures.put;
      noted = omega (arith, c.put_entry.auto.runs, c.loop-k.invariant.noted);
      runs = c.put_entry.ensures.runs;
    }

pub returns : goal.returns
returns g c =
    let e = c.args.entries.now in
    let es : List WordPair = entry_pairs e in
    let long = length-entries_of e.places.items e.hashes.items e.paired in
    record { filled = c.loop-k.invariant.filled ∙ ap (filled_slots (2 * length es)) (take_all c.loop-k.k es (omega arith)) }
