use Rattle.cdb_read.proofs.Words.{ap, length, part, sym, ◌∙◌}
use Rattle.cdb_read.proofs.Bytes.Windows.{shown_is}
use Rattle.cdb_read.proofs.reader.Reader.read_at.Goals as goal

pub returns-clause-read : goal.returns-clause-read
returns-clause-read g c = λ b image.
    let e = c.in_ok-cover.ensures in
    c.copy_from_slice.ensures.after
    ∙ c.shown.ensures.is
    ∙ shown_is c.cover.new.self (g.S.Store.image c.cover.new.store) c.args.place (length c.args.into.now) e.shows e.covers b image
    ∙ ap (λ k. part c.args.place k b) (sym c.copy_from_slice.ensures.len)
