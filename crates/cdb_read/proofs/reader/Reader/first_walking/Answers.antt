use Rattle.cdb_read.proofs.Words.{arith, head_pairs, head_size, length, subst, sym, ◌≤◌}
use Rattle.cdb_read.proofs.Walked.Walks.{walks_nowhere, walks_from}
use Rattle.cdb_read.proofs.reader.Reader.first_walking.Goals as goal

pub returns-then-end-place-clause-walks : goal.returns-then-end-place-clause-walks
returns-then-end-place-clause-walks g c = λ b image.
    let w = g.L.Width.WORD in
    let size = g.met.S.Store.image_size c.args.self.now.store b image in
    let long : head_size w ≤ length b = subst (λ k. head_size w ≤ k) (sym size) c.args.self.now.long in
    walks_nowhere w c.record_end-end.result _ b (head_pairs c.args.self.now.head) long (c.args.self.now.known b image) c.record_end-end.ensures c.first_table_at.ensures (omega (arith, c.head_size-place.ensures, c.if-end-place.true))

pub returns-clause-walks : goal.returns-clause-walks
returns-clause-walks g c = λ b image.
    let w = g.L.Width.WORD in
    let size = g.met.S.Store.image_size c.args.self.now.store b image in
    let long : head_size w ≤ length b = subst (λ k. head_size w ≤ k) (sym size) c.args.self.now.long in
    walks_from w _ c.record_end-end.result b (head_pairs c.args.self.now.head) long (c.args.self.now.known b image) c.record_end-end.ensures c.head_size-place.ensures (omega (arith, c.if-end-place.false))
