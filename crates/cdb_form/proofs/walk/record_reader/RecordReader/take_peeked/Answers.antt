use Rattle.cdb_form.proofs.Words.{arith, common_steps, inl, inr, refl}
use Rattle.cdb_form.proofs.RecordReading.Stored.{peeked_taken}
use Rattle.cdb_form.proofs.walk.record_reader.RecordReader.take_peeked.Goals as goal

pub returns-in-At : goal.returns-in-At
returns-in-At g c = λ r peeked.
    peeked_taken g.L.Width.WORD g.R.Feeds.feed g.A.AtHand.held c.args.self.now _ c.in-At.area _ c.args.len r (elim g.met.L.Width.four_or_eight [ inl a ↦ omega arith | inr b ↦ omega arith ]) peeked
    c.in-At.is refl c.take.ensures refl refl

pub overflow_add-self : goal.overflow_add-self
overflow_add-self g c = grind (arith, common_steps)

pub take-requires : goal.take-requires
take-requires g c = grind (arith, common_steps)
