use Rattle.cdb_read.proofs.Words.{ImagesHold, ap, arith, fold, fold-append, hash_step, part, part_add, sym, ◌+◌, ◌∙◌, ◌≡◌}
use Rattle.cdb_read.proofs.Bytes.PieceReads.{reads_more}
use Rattle.cdb_read.proofs.Bytes.Windows.{holds_shown}
use Rattle.cdb_read.proofs.checking.key_hash.span_hash.Goals as goal

pub loop-done-preserved : goal.loop-done-preserved
loop-done-preserved g c =
    let e = c.in_ok-cover.ensures in
    let inv = c.loop-done.invariant in
    let held : ImagesHold (c.args.span.place + c.loop-done.done) c.shown.result.now (g.S.Store.image c.cover.new.store) = holds_shown e.shows e.covers c.shown.ensures.is c.shown.ensures.long in
    record {
      inside = omega arith;
      shows = e.shows;
      reads = reads_more inv.reads c.cover.ensures.reads;
      hash = λ b is.
          let piece : c.shown.result.now ≡ part (c.args.span.place + c.loop-done.done) c.min-n.result b = sym (held.each b is) ∙ ap (λ k. part (c.args.span.place + c.loop-done.done) k b) c.shown.ensures.long in
          c.hash_more-hash.ensures
          ∙ ap (λ h. fold hash_step h c.shown.result.now) (inv.hash b (c.cover.ensures.reads.images b is))
          ∙ ap (fold hash_step (fold hash_step 5381 (part c.args.span.place c.loop-done.done b))) piece
          ∙ sym (fold-append hash_step 5381 (part c.args.span.place c.loop-done.done b) (part (c.args.span.place + c.loop-done.done) c.min-n.result b))
          ∙ ap (fold hash_step 5381) (sym (part_add c.args.span.place c.loop-done.done c.min-n.result b));
    }
