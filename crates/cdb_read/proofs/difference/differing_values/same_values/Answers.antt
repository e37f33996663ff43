use Rattle.cdb_read.proofs.DifferenceWords.{with_span}
use Rattle.std.proofs.Common.{rules, ◌≡◌, ◌∙◌, sym, ap, subst, IfOk}
use Rattle.std.proofs.lemmas.Bool.{both_ways}
use Rattle.cdb_read.proofs.ComparedValues.{compared_more, damage_next, damage_still, left_stays, one_differs, other_ended, own_ended}
use Rattle.cdb_read.proofs.Looked.{looks_more}
use Rattle.cdb_read.proofs.difference.differing_values.same_values.Goals as goal

pub returns-then-not-branch-clause-same : goal.returns-then-not-branch-clause-same
returns-then-not-branch-clause-same g c = λ b d is it.
    let inv = c.loop-with.invariant in
    let both = c.same_bytes.ensures in
    let one = rw c.in-Some.is at c.in_ok-with.ensures.gives in
    let here = both.other.looks.reads.images d it in
    let same = c.in_ok-same_bytes.ensures.same b d is it in
    one_differs b d c.args.first c.loop-with.value c.in-Some.with _ _ _ _ _ (inv.same b d (both.own.looks.reads.images b is) (c.next_other.ensures.looks.reads.images d here)) (one.first d here)
    (λ e. both_ways c.in_ok-same_bytes.field-0 c.if-not-branch.true (same.1 e))

pub returns-in_default-2-clause-same : goal.returns-in_default-2-clause-same
returns-in_default-2-clause-same g c = λ b d is it.
    let w = g.L.Width.WORD in
    let inv = c.loop-with.invariant in
    let both = c.same_bytes.ensures in
    let one = rw c.in-Some.is at c.in_ok-with.ensures.gives in
    let none = rw c.in_default-2.is at c.in_ok-next.ensures.gives in
    let mine = c.next.ensures.reads.images b is in
    let theirs = c.ends.ensures.looks.reads.images d it in
    let here = both.other.looks.reads.images d theirs in
    let same = (c.in_ok-same_bytes.ensures.same b d mine theirs).0 c.if-not-branch.false in
    let others = one.first d here ∙ ap (with_span c.in-Some.with) (sym (left_stays {s = g.T.Store} {l = g.L.Width} w d c.next_other.new.other c.same_bytes.new.other both.other.looks.key both.other.searching)) in
    let left = sym (left_stays {s = g.S.Store} {l = g.L.Width} w b c.loop-with.own c.same_bytes.new.own both.own.looks.key both.own.searching) ∙ none.none b is in
    subst (λ v. IfOk c.ends.result (λ ended. ended ≡ v))
    (own_ended b d c.args.first c.loop-with.value c.in-Some.with _ _ _ _ _ (inv.same b d (both.own.looks.reads.images b mine) (c.next_other.ensures.looks.reads.images d here)) others same left)
    (c.ends.ensures.ends d it)

pub loop-with-preserved : goal.loop-with-preserved
loop-with-preserved g c =
    let w = g.L.Width.WORD in
    let inv = c.loop-with.invariant in
    let both = c.same_bytes.ensures in
    let one = rw c.in-Some.is at c.in_ok-with.ensures.gives in
    let more = rw c.in-Some-2.is at c.in_ok-next.ensures.gives in
    record {
      inside = more.inside;
      mine = search rules;
      theirs = search rules;
      own = looks_more (looks_more inv.own both.own.looks) (record { reader = c.next.ensures.same_reader; key = c.next.ensures.key; reads = c.next.ensures.reads });
      own_damage = damage_next {s = g.S.Store} {l = g.L.Width} w c.args.own.now c.same_bytes.new.own c.next.new.self c.in-Some-2.next
          (damage_still {s = g.S.Store} {l = g.L.Width} w c.args.own.now c.loop-with.own c.same_bytes.new.own inv.own_damage both.own.looks.reads both.own.looks.key both.own.searching) c.next.ensures.reads more;
      other = looks_more (looks_more inv.other c.next_other.ensures.looks) both.other.looks;
      other_damage = damage_still {s = g.T.Store} {l = g.L.Width} w c.args.other.now c.next_other.new.other c.same_bytes.new.other
          (damage_next {s = g.T.Store} {l = g.L.Width} w c.args.other.now c.loop-with.other c.next_other.new.other c.in-Some.with inv.other_damage c.next_other.ensures.looks.reads one) both.other.looks.reads both.other.looks.key both.other.searching;
      same = λ b d is it.
          let mine = c.next.ensures.reads.images b is in
          let here = both.other.looks.reads.images d it in
          let same = (c.in_ok-same_bytes.ensures.same b d mine it).0 c.if-not-branch.false in
          let others = one.first d here ∙ ap (with_span c.in-Some.with) (sym (left_stays {s = g.T.Store} {l = g.L.Width} w d c.next_other.new.other c.same_bytes.new.other both.other.looks.key both.other.searching)) in
          let left = sym (left_stays {s = g.S.Store} {l = g.L.Width} w b c.loop-with.own c.same_bytes.new.own both.own.looks.key both.own.searching) ∙ more.first b is in
          compared_more b d c.args.first c.loop-with.value c.in-Some.with c.in-Some-2.next _ _ _ _ _ _ (inv.same b d (both.own.looks.reads.images b mine) (c.next_other.ensures.looks.reads.images d here)) others same left;
    }

pub returns-clause-same : goal.returns-clause-same
returns-clause-same g c = λ b d is it.
    let inv = c.loop-with.invariant in
    let none = rw c.in_default.is at c.in_ok-with.ensures.gives in
    other_ended b d c.args.first c.loop-with.value _ _ _ _ (inv.same b d is (c.next_other.ensures.looks.reads.images d it)) (none.none d it)
