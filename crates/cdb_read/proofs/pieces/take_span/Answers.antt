use Rattle.std.proofs.Common.{rules, ap, arith, ◌∙◌, ◌≡◌, ◌+◌, length, length-append, length-drop, refl, subst, sym}
use Rattle.cdb_read.proofs.Bytes.PieceReads.{HasTaken, reads_more, taken_more}
use Rattle.cdb_read.proofs.pieces.take_span.Goals as goal

pub loop-done-preserved : goal.loop-done-preserved
loop-done-preserved g c =
    let l : length c.read_part.new.into ≡ c.min-n.result = search rules in
    record {
      within = omega arith;
      piece = simp (length-append, length-drop) (omega (arith, l, c.loop-done.invariant.piece));
      reads = reads_more c.loop-done.invariant.reads c.read_part.ensures.reads;
      long = ap length c.in_ok-extend_from_slice.ensures.items ∙ length-append c.loop-done.into.items c.read_part.new.into ∙ omega (arith, l, c.loop-done.invariant.long);
      taken = subst (λ t. HasTaken c.args.span.place (c.loop-done.done + c.min-n.result) t (g.S.Store.image c.read_part.new.store)) (sym c.in_ok-extend_from_slice.ensures.items)
          (taken_more {place = c.args.span.place} {done = c.loop-done.done} refl l c.loop-done.invariant.taken c.in_ok-read_part.ensures.read);
    }
