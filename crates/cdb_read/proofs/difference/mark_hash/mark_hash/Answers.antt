use Rattle.cdb_read.proofs.DifferenceWords.{ap, arith, fold, mark_step, part, part_add, reads_more, sym, ◌+◌, ◌∙◌}
use Rattle.std.proofs.lemmas.List.Sums.{fold-append}
use Rattle.cdb_read.proofs.difference.mark_hash.mark_hash.Goals as goal

pub loop-done-preserved : goal.loop-done-preserved
loop-done-preserved g c =
    let e = c.read_ahead.ensures in
    let inv = c.loop-done.invariant in
    let before = part c.args.key.place c.loop-done.done in
    let piece = part (c.args.key.place + c.loop-done.done) c.min-n.result in
    record {
      within = omega arith;
      reads = reads_more inv.reads e.reads;
      hash = λ b is.
          c.hash_each-hash.ensures
          ∙ ap (fold mark_step c.loop-done.hash) (c.at_hand.ensures.is b is)
          ∙ ap (λ h. fold mark_step h (piece b)) (inv.hash b (e.reads.images b is))
          ∙ sym (fold-append mark_step 2166136261 (before b) (piece b))
          ∙ ap (fold mark_step 2166136261) (sym (part_add c.args.key.place c.loop-done.done c.min-n.result b));
    }
