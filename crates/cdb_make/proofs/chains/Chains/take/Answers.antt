use Rattle.cdb_make.proofs.Words.{IsTakenFrom, ap, arith, gone_of, is_gone, length, refl, subst, sym, ℕ, ◌∙◌, ◌≡◌}
use Rattle.cdb_make.proofs.Linking.{chained_same}
use Rattle.cdb_make.proofs.Marking.{gone_or, taken_all}
use Rattle.cdb_make.proofs.chains.Chains.take.Goals as goal

pub returns-clause-chained : goal.returns-clause-chained
returns-clause-chained c =
    let mid = c.take_linked.new.self in
    let hs = c.args.hashes.now in
    let t = c.take_each.ensures.taken in
    chained_same mid.heads.items mid.before.items hs hs (gone_of c.take_linked.new.marks) (gone_of c.take_each.new.marks) c.take_linked.ensures.chained.within (λ k lt. refl)
    (λ k lt. gone_or c.take_each.new.marks k ∙ ap is_gone (t.before k (omega (arith, lt, c.len.ensures, mid.before.ok.0))) ∙ sym (gone_or c.take_linked.new.marks k))
    c.take_linked.ensures.chained

pub returns-clause-marks : goal.returns-clause-marks
returns-clause-marks c =
    let l = c.take_linked.ensures in
    let same : c.len.result ≡ length c.args.self.now.before.items = omega (arith, c.len.ensures, c.take_linked.new.self.before.ok.0, l.same) in
    taken_all c.args.marks.now c.take_linked.new.marks c.take_each.new.marks c.len.result c.take_each.ensures.long l.long (subst (λ (n : ℕ). IsTakenFrom 0 n c.args.marks.now c.take_linked.new.marks) (sym same) l.linked) c.take_each.ensures.taken
