use Rattle.cdb_read.proofs.Words.{IsSearchInside, ap, subst, sym, table_number, ℕ, ◌∙◌}
use Rattle.cdb_read.proofs.Probing.Beginnings.{looks_by}
use Rattle.cdb_read.proofs.reader.Reader.first_probe.Goals as goal

pub returns-clause-finds : goal.returns-clause-finds
returns-clause-finds g c = λ b image.
    let key = c.args.key.now in
    let hash = c.requires.hash in
    let size = c.len.ensures ∙ sym (g.met.S.Store.image_size c.args.self.now.store b image) in
    c.first_probe.ensures.finds b key size hash
    ∙ sym (looks_by g.L.Width.WORD b key c.args.self.now.head.pointers c.table_number.result _ (c.args.self.now.known b image) (c.table_number.ensures.number ∙ ap table_number hash))

pub returns-clause-inside : goal.returns-clause-inside
returns-clause-inside g c = subst (λ (n : ℕ). IsSearchInside g.L.Width.WORD n c.first_probe.result) c.len.ensures c.first_probe.ensures.inside
