use Rattle.std.proofs.lemmas.Grind.{common_steps}
use Rattle.std.proofs.Common.{arith}
use Rattle.cdb_make.proofs.Words.{marks_in, AreNone, ap, arith, inl, inr, on_ok_weaker, refl, searched, subst, sym, ◌∙◌, rules}
use Rattle.cdb_make.proofs.Bytes.Written.{on_any_ok}
use Rattle.cdb_make.proofs.Rolls.{follows_then, if_err_weaker}
use Rattle.cdb_make.proofs.Admitting.{have_more, taken_clear, admits_later, admits_after, fails_after}
use Rattle.cdb_make.proofs.Marking.{marks_long}
use Rattle.cdb_make.proofs.maker.Maker.add_then_take.Goals as goal

pub take-requires : goal.take-requires
take-requires g c =
    let m = c.args.self.now.roll in
    let a = c.in_ok-add_before.ensures.done c.if-branch.true in
    record { hash = have_more c.args.candidate.number _ (searched m) (searched c.add_before.new.self.roll) (marks_in m) (marks_in c.add_before.new.self.roll) a.searched a.found ((marks_long m) ∙ sym m.numbered) c.requires.have }

pub invariant_of-self-clause-eager : goal.invariant_of-self-clause-eager
invariant_of-self-clause-eager g c = λ eager whole.
    let a = c.in_ok-add_before.ensures.done c.if-branch.true in
    subst AreNone (sym c.take.ensures.gone) (taken_clear c.args.self.now c.add_before.new.self c.args.candidate.hash _ (inl c.requires.lazy) c.requires.whole a (sym c.add_before.ensures.steps.follows.lazy ∙ eager))

pub returns-then-branch-clause-admits : goal.returns-then-branch-clause-admits
returns-then-branch-clause-admits g c =
    admits_later c.args.self.now c.add_before.new.self _ c.args.candidate.hash _ (inl c.requires.lazy) c.requires.whole (c.in_ok-add_before.ensures.done c.if-branch.true) refl refl c.take.ensures.same c.take.ensures.gone

pub returns-clause-admits : goal.returns-clause-admits
returns-clause-admits g c =
    on_ok_weaker c.compact_and_add.result (admits_after c.args.self.now c.add_before.new.self c.compact_and_add.new.self _ (c.in_ok-add_before.ensures.waits c.if-branch.false) c.add_before.ensures.steps.follows.lazy) c.compact_and_add.ensures.admits

pub returns-clause-fails : goal.returns-clause-fails
returns-clause-fails g c =
    if_err_weaker c.compact_and_add.result (λ fault. fails_after c.args.self.now c.add_before.new.self c.compact_and_add.new.self _ fault (c.in_ok-add_before.ensures.waits c.if-branch.false) c.add_before.ensures.steps.follows.room c.add_before.ensures.steps.follows.unwritten c.requires.fits (let w = c.in_ok-add_before.ensures.waits c.if-branch.false in omega (arith, c.requires.some, ap (λ q. q.count) w.stays.gone, ap (λ q. q.count) w.stays.found))) c.compact_and_add.ensures.fails

pub returns-clause-steps : goal.returns-clause-steps
returns-clause-steps g c = record {
  fine = on_ok_weaker c.compact_and_add.result (λ e. e ∙ c.in_ok-add_before.ensures.steps.fine) c.compact_and_add.ensures.steps.fine;
  counts = search rules;
  follows = follows_then c.args.self.now c.add_before.new.self c.compact_and_add.new.self c.add_before.ensures.steps.follows c.compact_and_add.ensures.steps.follows;
}

pub invariant_of-self-clause-spare : goal.invariant_of-self-clause-spare
invariant_of-self-clause-spare g c = λ whole. (let a = c.in_ok-add_before.ensures.done c.if-branch.true in omega (arith, c.requires.spare, a.gone_size, a.found_size, a.end, c.take.ensures.size, c.take.ensures.same.end))

pub returns-then-branch-clause-alone : goal.returns-then-branch-clause-alone
returns-then-branch-clause-alone g c = inl (c.in_ok-add_before.ensures.done c.if-branch.true).written

pub returns-clause-alone : goal.returns-clause-alone
returns-clause-alone g c = on_any_ok c.compact_and_add.result (inr (λ lazy. inr (c.in_ok-add_before.ensures.waits c.if-branch.false).short))

pub invariant_of-self-clause-within : goal.invariant_of-self-clause-within
invariant_of-self-clause-within g c = grind (arith, common_steps)
