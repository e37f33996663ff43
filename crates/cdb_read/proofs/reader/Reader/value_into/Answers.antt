use Rattle.cdb_read.proofs.Words.{OnTrue_at, ap, length, ◌++◌, ◌∙◌}
use Rattle.cdb_read.proofs.Bytes.Windows.{shown_is}
use Rattle.cdb_read.proofs.reader.Reader.value_into.Goals as goal

pub returns-then-covers-clause-is : goal.returns-then-covers-clause-is
returns-then-covers-clause-is g c = λ b image.
    c.in_ok-extend_from_slice.ensures.items
    ∙ ap (λ t. t ++ c.shown.result.now) c.clear.ensures.items
    ∙ c.shown.ensures.is
    ∙ shown_is c.args.self.now.window (g.S.Store.image c.args.self.now.store) c.args.span.place c.args.span.len c.args.self.now.shows (OnTrue_at c.if-covers.true c.covers.ensures) b image

pub returns-then-covers-clause-long : goal.returns-then-covers-clause-long
returns-then-covers-clause-long g c = ap length (c.in_ok-extend_from_slice.ensures.items ∙ ap (λ t. t ++ c.shown.result.now) c.clear.ensures.items) ∙ c.shown.ensures.long
