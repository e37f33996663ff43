use Rattle.cdb_make.proofs.Words.{AreChained, AreNone, IsPicked, List, Mark, Picked, ap, arith, found_of, gone_of, head_size, is_found, length, length-map, map, marks_in, number, places_in, put_back, searched, subst, sym, ◌<◌, ◌∙◌}
use Rattle.cdb_make.proofs.Picking.{back_long, back_marks, first_within, gone_put_back, found_put_back, picks_none}
use Rattle.cdb_make.proofs.Marking.{marks_long}
use Rattle.cdb_make.proofs.Survive.{number_zero}
use Rattle.cdb_make.proofs.roll.Roll.put_back.Goals as goal

pub returns-clause-gone : goal.returns-clause-gone
returns-clause-gone g c =
    let m = c.mark_all.new.self in
    let h = c.put_each_back.ensures in
    let some : 0 < number (found_of (marks_in m)) = omega (arith, m.sought.count, ap (λ (p : Picked). p.count) c.mark_all.ensures.found, c.if-self-eq0.false) in
    ap gone_of (back_marks (length m.hashes.items) c.deref_mut.result.now m.marks.items c.put_each_back.new.marks _ m.marks.len m.found.first c.mark_all.ensures.marked c.deref_mut.ensures.value m.marks.ok.0 m.sought.first some h.long h.back) ∙ gone_put_back (marks_in m) ∙ ap gone_of c.mark_all.ensures.all

pub returns-clause-found : goal.returns-clause-found
returns-clause-found g c =
    let m = c.mark_all.new.self in
    let h = c.put_each_back.ensures in
    let some : 0 < number (found_of (marks_in m)) = omega (arith, m.sought.count, ap (λ (p : Picked). p.count) c.mark_all.ensures.found, c.if-self-eq0.false) in
    subst (λ (v : List Mark). AreNone (found_of v)) (sym (back_marks (length m.hashes.items) c.deref_mut.result.now m.marks.items c.put_each_back.new.marks _ m.marks.len m.found.first c.mark_all.ensures.marked c.deref_mut.ensures.value m.marks.ok.0 m.sought.first some h.long h.back)) (found_put_back (marks_in m))

pub invariant_of-self-clause-chained : goal.invariant_of-self-clause-chained
invariant_of-self-clause-chained g c =
    let m = c.mark_all.new.self in
    let h = c.put_each_back.ensures in
    let some : 0 < number (found_of (marks_in m)) = omega (arith, m.sought.count, ap (λ (p : Picked). p.count) c.mark_all.ensures.found, c.if-self-eq0.false) in
    subst (AreChained m.chains.heads.items m.chains.before.items (searched m))
    (sym (ap gone_of (back_marks (length m.hashes.items) c.deref_mut.result.now m.marks.items c.put_each_back.new.marks _ m.marks.len m.found.first c.mark_all.ensures.marked c.deref_mut.ensures.value m.marks.ok.0 m.sought.first some h.long h.back) ∙ gone_put_back (marks_in m))) m.chained

pub invariant_of-self-clause-picked : goal.invariant_of-self-clause-picked
invariant_of-self-clause-picked g c =
    let m = c.mark_all.new.self in
    let h = c.put_each_back.ensures in
    let some : 0 < number (found_of (marks_in m)) = omega (arith, m.sought.count, ap (λ (p : Picked). p.count) c.mark_all.ensures.found, c.if-self-eq0.false) in
    subst (λ v. IsPicked (head_size g.L.Width.WORD) (places_in m.places) m.end v m.gone)
    (sym (ap gone_of (back_marks (length m.hashes.items) c.deref_mut.result.now m.marks.items c.put_each_back.new.marks _ m.marks.len m.found.first c.mark_all.ensures.marked c.deref_mut.ensures.value m.marks.ok.0 m.sought.first some h.long h.back) ∙ gone_put_back (marks_in m))) m.picked

pub invariant_of-self-clause-marked : goal.invariant_of-self-clause-marked
invariant_of-self-clause-marked g c =
    let m = c.mark_all.new.self in
    back_long (length m.hashes.items) c.deref_mut.result.now m.marks.items c.put_each_back.new.marks _ m.marks.len c.mark_all.ensures.marked c.deref_mut.ensures.value m.marks.ok.0 c.put_each_back.ensures.long

pub invariant_of-self-clause-sought : goal.invariant_of-self-clause-sought
invariant_of-self-clause-sought g c =
    let m = c.mark_all.new.self in
    let h = c.put_each_back.ensures in
    let some : 0 < number (found_of (marks_in m)) = omega (arith, m.sought.count, ap (λ (p : Picked). p.count) c.mark_all.ensures.found, c.if-self-eq0.false) in
    let ms : List Mark = map put_back (marks_in m) in
    subst (λ (v : List Mark). IsPicked (head_size g.L.Width.WORD) (places_in m.places) m.end (found_of v) c.none-self.result) (sym (back_marks (length m.hashes.items) c.deref_mut.result.now m.marks.items c.put_each_back.new.marks _ m.marks.len m.found.first c.mark_all.ensures.marked c.deref_mut.ensures.value m.marks.ok.0 m.sought.first some h.long h.back))
    (picks_none _ _ _ (found_of ms) _ (found_put_back (marks_in m)) c.none-self.ensures.first c.none-self.ensures.count c.none-self.ensures.size)

pub put_each_back-requires : goal.put_each_back-requires
put_each_back-requires g c =
    let m = c.mark_all.new.self in
    let some : 0 < number (found_of (marks_in m)) = omega (arith, m.sought.count, ap (λ (p : Picked). p.count) c.mark_all.ensures.found, c.if-self-eq0.false) in
    omega (arith, first_within (found_of (marks_in m)) m.found.first m.sought.first some, length-map (marks_in m) is_found, marks_long m, c.mark_all.ensures.marked, ap length c.deref_mut.ensures.value)

pub returns-then-self-eq0-clause-found : goal.returns-then-self-eq0-clause-found
returns-then-self-eq0-clause-found g c =
    let m = c.args.self.now in
    number_zero (found_of (marks_in m)) (sym m.sought.count ∙ c.if-self-eq0.true)

pub returns-clause-has : goal.returns-clause-has
returns-clause-has g c = λ has.
    let h = c.mark_all.ensures.has has in
    record { hashes = h.hashes; tags = h.tags; places = h.places; marks = h.marks }
