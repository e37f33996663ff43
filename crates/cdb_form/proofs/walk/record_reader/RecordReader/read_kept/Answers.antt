use Rattle.cdb_form.proofs.Words.{arith, common_steps, refl, rules, sym, true, ◌≡◌, ◌∙◌}
use Rattle.cdb_form.proofs.walk.record_reader.RecordReader.read_kept.Goals.{in-AtHead, in-At}
use Rattle.cdb_form.proofs.walk.record_reader.RecordReader.read_kept.Goals as goal

pub returns-in-Err-clause-fails : goal.returns-in-Err-clause-fails
returns-in-Err-clause-fails g c = elim c.match-self.branch [
  | in-AtHead w ↦
      let is = sym w.answer-is ∙ c.in-Err.is in
      let e = w.first-answer.ensures in
      record {
        failed = refl;
        walk = rw (w.self-is, w.in-AtHead.is) (rw is at e.fails);
        part = rw (w.self-is, w.in-AtHead.is) (rw is at e.part);
        unread = λ going. rw w.self-is (rw is at e.unread);
        no_further = λ going. rw (w.self-is, w.in-AtHead.is) (rw is at e.header);
      }
  | in-At w ↦
      let is = sym w.answer-is ∙ c.in-Err.is in
      let e = w.record_at-answer.ensures in
      record {
        failed = refl;
        walk = rw (w.self-is, w.in-At.is) (rw is at e.fails);
        part = rw (w.self-is, w.in-At.is) (rw is at e.part);
        unread = λ going. rw w.self-is (rw is at e.unread);
        no_further = λ going. rw (w.self-is, w.in-At.is) (rw is at e.header);
      }
]

pub returns-in-AtEnd-clause-gives : goal.returns-in-AtEnd-clause-gives
returns-in-AtEnd-clause-gives g c = grind (arith, common_steps)

pub returns-in-Ok-true-clause-gives : goal.returns-in-Ok-true-clause-gives
returns-in-Ok-true-clause-gives g c =
    let yes : c.in-Ok-true.field-0 ≡ true = search rules in
    elim c.match-self.branch [
      | in-AtHead w ↦
          let is = sym w.answer-is ∙ c.in-Ok-true.is in
          let e = w.first-answer.ensures in
          let r = rw yes at (rw is at e.record) in
          let f = rw yes at (rw is at e.fewer) in
          rw (yes, w.self-is, w.into-is, w.in-AtHead.is) (r.0, r.1, record { walk = r.2; cut = r.3; going = f.0; fewer = f.1 })
      | in-At w ↦
          let is = sym w.answer-is ∙ c.in-Ok-true.is in
          let e = w.record_at-answer.ensures in
          let r = rw yes at (rw is at e.record) in
          let f = rw yes at (rw is at e.fewer) in
          rw (yes, w.self-is, w.into-is, w.in-At.is) (r.0, r.1, record { walk = r.2; cut = r.3; going = f.0; fewer = f.1 })
    ]
