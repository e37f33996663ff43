use Rattle.cdb_read.proofs.Words.{ap, lt-ltb, not, sym, ◌&&◌, ◌∙◌}
use Rattle.cdb_read.proofs.Lacking.{nothing_follows, tables_lack}
use Rattle.cdb_read.proofs.reader.Reader.lacks_tables.Goals as goal

pub returns-then-is_longer : goal.returns-then-is_longer
returns-then-is_longer g c = λ b image.
    let r = c.args.self.now in
    sym (ap (λ x. x && not c.any_slots.result) (lt-ltb c.head_size.result c.len.result c.if-is_longer.true))
    ∙ tables_lack g.L.Width.WORD c.head_size.result c.len.result b r.head.pointers c.any_slots.result c.any_slots.ensures (r.known b image) c.head_size.ensures (c.len.ensures ∙ sym (g.met.S.Store.image_size r.store b image))

pub returns-else-is_longer : goal.returns-else-is_longer
returns-else-is_longer g c = λ b image.
    nothing_follows g.L.Width.WORD c.head_size.result c.len.result b c.if-is_longer.false c.head_size.ensures (c.len.ensures ∙ sym (g.met.S.Store.image_size c.args.self.now.store b image))
