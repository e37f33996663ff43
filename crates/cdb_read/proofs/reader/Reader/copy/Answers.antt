use Rattle.cdb_read.proofs.Words.{OnTrue_at, err_from_is_err_and, rules, ◌∙◌}
use Rattle.cdb_form.proofs.Bytes.WritingLemmas.{same_appends, same_prefix, writes_prefix}
use Rattle.cdb_read.proofs.Bytes.Windows.{shown_is}
use Rattle.cdb_read.proofs.reader.Reader.copy.Goals as goal

pub copy_span-requires-clause-fits : goal.copy_span-requires-clause-fits
copy_span-requires-clause-fits g c = c.args.self.now.fits

pub returns-clause-copies : goal.returns-clause-copies
returns-clause-copies g c = search rules

pub returns-then-covers-clause-copies : goal.returns-then-covers-clause-copies
returns-then-covers-clause-copies g c = λ b image.
    let is = c.shown.ensures.is ∙ shown_is c.args.self.now.window (g.S.Store.image c.args.self.now.store) c.args.span.place c.args.span.len c.args.self.now.shows (OnTrue_at c.if-covers.true c.covers.ensures) b image in
    record { ok = same_appends _ _ _ _ is c.in_ok-write_whole.ensures.writes.ok; err = tt }

pub returns-in_err-write_whole-clause-copies : goal.returns-in_err-write_whole-clause-copies
returns-in_err-write_whole-clause-copies g c = λ b image.
    let p = err_from_is_err_and c.from_residual.result c.from_residual.ensures.1 in
    let is = c.shown.ensures.is ∙ shown_is c.args.self.now.window (g.S.Store.image c.args.self.now.store) c.args.span.place c.args.span.len c.args.self.now.shows (OnTrue_at c.if-covers.true c.covers.ensures) b image in
    writes_prefix _ _ _ _ _ p.1 (same_prefix _ _ _ _ is c.in_err-write_whole.ensures.writes.err)
