use Rattle.cdb_read.proofs.Words.{ap, is_outside, position, sym, ◌∙◌}
use Rattle.cdb_read.proofs.reader.Reader.outside_table.Goals as goal

pub returns : goal.returns
returns g c = λ b image.
    let r = c.args.self.now in
    c.first_outside.ensures.first b (g.met.S.Store.image_size r.store b image ∙ sym c.len.ensures)
    ∙ ap (position (is_outside g.L.Width.WORD b)) (sym (r.known b image))
