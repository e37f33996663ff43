use Rattle.cdb_read.proofs.Words.{arith, err_from_is_err_and, length, length-append, length-drop, refl, rules, writes_prefix, ℕ, ◌+◌, ◌-◌, ◌≡◌}
use Rattle.cdb_read.proofs.Bytes.PieceReads.{reads_more, copied_prefix, copied_piece, copied_more}
use Rattle.cdb_read.proofs.pieces.copy_span.Goals as goal

pub returns-in_err-read_part-clause-copies : goal.returns-in_err-read_part-clause-copies
returns-in_err-read_part-clause-copies g c = λ b is.
    let p = err_from_is_err_and c.from_residual.result c.from_residual.ensures.1 in
    let rest : ℕ = c.args.span.len - c.loop-done.done in
    writes_prefix _ _ _ _ _ p.1 (copied_prefix {place = c.args.span.place} {done = c.loop-done.done} rest (omega arith) c.loop-done.invariant.copied c.read_part.ensures.reads.images b is)

pub returns-in_err-write_whole-clause-copies : goal.returns-in_err-write_whole-clause-copies
returns-in_err-write_whole-clause-copies g c = λ b is.
    let p = err_from_is_err_and c.from_residual-in_err-write_whole.result c.from_residual-in_err-write_whole.ensures.1 in
    let l : length c.read_part.new.into ≡ c.min-n.result = search rules in
    let rest : ℕ = c.args.span.len - (c.loop-done.done + c.min-n.result) in
    writes_prefix _ _ _ _ _ p.1 (copied_piece {place = c.args.span.place} {done = c.loop-done.done} rest (omega arith) refl l c.loop-done.invariant.copied c.in_ok-read_part.ensures.read c.in_err-write_whole.ensures.writes.err b is)

pub loop-done-preserved : goal.loop-done-preserved
loop-done-preserved g c =
    let l : length c.read_part.new.into ≡ c.min-n.result = search rules in
    record {
      within = omega arith;
      piece = simp (length-append, length-drop) (omega (arith, l, c.loop-done.invariant.piece));
      reads = reads_more c.loop-done.invariant.reads c.read_part.ensures.reads;
      copied = copied_more {place = c.args.span.place} {done = c.loop-done.done} refl l c.loop-done.invariant.copied c.in_ok-read_part.ensures.read c.in_ok-write_whole.ensures.writes.ok;
    }
