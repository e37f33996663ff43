use Rattle.cdb_read.proofs.DifferenceWords.{DifferenceStops, err_from_is_err_and, flipped, reads_more, reads_none, subst, sym}
use Rattle.cdb_read.proofs.Marked.{agree_flipped}
use Rattle.cdb_read.proofs.PassStops.{flipped_stops, whole_since}
use Rattle.cdb_read.proofs.WholeDifferences.{difference_written, nothing_written, prefix_end, prefix_first, prefix_second}
use Rattle.cdb_read.proofs.difference.write.write_difference.Goals as goal

pub write_pass-requires : goal.write_pass-requires
write_pass-requires g c = record { agree = λ b d is it. c.in_ok-mark_changed.ensures.agree b d is it }

pub write_pass-requires-2 : goal.write_pass-requires-2
write_pass-requires-2 g c =
    let first = c.write_pass.ensures in
    record { agree = λ d b it is. agree_flipped _ _ _ (c.in_ok-mark_changed.ensures.agree b d (first.reads.own.images b is) (first.reads.other.images d it)) }

pub returns-in_err-marks : goal.returns-in_err-marks
returns-in_err-marks g c =
    let p = err_from_is_err_and c.from_residual.result c.from_residual.ensures.1 in
    rw (p.1, p.2)
    (record {
      old_reads = reads_none g.S.Store c.args.old.now.store;
      new_reads = reads_none g.T.Store c.args.new.now.store;
      ok = tt;
      err = tt;
      front = λ b d is it. nothing_written g.L.Width.WORD b d _;
    })

pub returns-in_err-mark_changed : goal.returns-in_err-mark_changed
returns-in_err-mark_changed g c =
    let p = err_from_is_err_and c.from_residual-in_err-mark_changed.result c.from_residual-in_err-mark_changed.ensures.1 in
    let marks = c.mark_changed.ensures in
    rw (p.1, p.2)
    (record {
      old_reads = marks.reads.own;
      new_reads = marks.reads.other;
      ok = tt;
      err = whole_since g.L.Width.WORD g.S.Store g.T.Store _ _ _ _ _ _ _ _ c.in_err-mark_changed.field-0.0 (reads_none g.S.Store c.args.old.now.store) (reads_none g.T.Store c.args.new.now.store) (λ no. absurd no) c.in_err-mark_changed.ensures.fails;
      front = λ b d is it. nothing_written g.L.Width.WORD b d _;
    })

pub returns-in_err-write_pass : goal.returns-in_err-write_pass
returns-in_err-write_pass g c =
    let p = err_from_is_err_and c.from_residual-in_err-write_pass.result c.from_residual-in_err-write_pass.ensures.1 in
    let marks = c.mark_changed.ensures in
    let pass = c.write_pass.ensures in
    let stop = c.in_err-write_pass.ensures in
    rw (p.1, p.2)
    (record {
      old_reads = reads_more marks.reads.own pass.reads.own;
      new_reads = reads_more marks.reads.other pass.reads.other;
      ok = tt;
      err = whole_since g.L.Width.WORD g.S.Store g.T.Store _ _ _ _ _ _ _ _ c.in_err-write_pass.field-0.0 marks.reads.own marks.reads.other (λ failed. failed) stop.fails;
      front = λ b d is it. prefix_first g.L.Width.WORD b d _ _ (stop.front b d is it);
    })

pub returns-in-Err : goal.returns-in-Err
returns-in-Err g c =
    let marks = c.mark_changed.ensures in
    let first = c.write_pass.ensures in
    let second = c.write_pass-2.ensures in
    let stop = c.in-Err.ensures in
    let old_reads = reads_more marks.reads.own first.reads.own in
    let new_reads = reads_more marks.reads.other first.reads.other in
    record {
      old_reads = reads_more old_reads second.reads.other;
      new_reads = reads_more new_reads second.reads.own;
      ok = tt;
      err = subst (DifferenceStops g.L.Width.WORD g.S.Store g.T.Store _ _ _ _ (g.W.Sink.failed c.write_pass-2.new.w)) (sym c.flipped.ensures)
          (whole_since g.L.Width.WORD g.S.Store g.T.Store _ _ _ _ _ _ (g.W.Sink.failed c.write_pass-2.new.w) (g.W.Sink.failed c.write_pass-2.new.w) (flipped c.in-Err.stop) old_reads new_reads (λ failed. failed) (flipped_stops g.L.Width.WORD g.S.Store g.T.Store _ _ _ _ _ c.in-Err.stop stop.fails));
      front = λ b d is it. prefix_second g.L.Width.WORD b d _ _ _ (c.in_ok-write_pass.ensures.ok b d (second.reads.other.images b is) (second.reads.own.images d it)) (stop.front d b it is);
    }

pub returns-in_err-write_end : goal.returns-in_err-write_end
returns-in_err-write_end g c =
    let p = err_from_is_err_and c.from_residual-in_err-write_end.result c.from_residual-in_err-write_end.ensures.1 in
    let marks = c.mark_changed.ensures in
    let first = c.write_pass.ensures in
    let second = c.write_pass-2.ensures in
    rw (p.1, p.2)
    (record {
      old_reads = reads_more (reads_more marks.reads.own first.reads.own) second.reads.other;
      new_reads = reads_more (reads_more marks.reads.other first.reads.other) second.reads.own;
      ok = tt;
      err = c.in_err-write_end.ensures.failed;
      front = λ b d is it.
          prefix_end g.L.Width.WORD b d _ _ _ _ (c.in_ok-write_pass.ensures.ok b d (second.reads.other.images b is) (second.reads.own.images d it)) (c.in-Ok.ensures.ok d b it is) c.in_err-write_end.ensures.writes.err;
    })

pub returns : goal.returns
returns g c =
    let marks = c.mark_changed.ensures in
    let first = c.write_pass.ensures in
    let second = c.write_pass-2.ensures in
    record {
      old_reads = reads_more (reads_more marks.reads.own first.reads.own) second.reads.other;
      new_reads = reads_more (reads_more marks.reads.other first.reads.other) second.reads.own;
      ok = λ b d is it.
          difference_written g.L.Width.WORD b d _ _ _ _ (c.in_ok-write_pass.ensures.ok b d (second.reads.other.images b is) (second.reads.own.images d it)) (c.in-Ok.ensures.ok d b it is) c.in_ok-write_end.ensures.writes.ok;
      err = tt;
      front = tt;
    }
