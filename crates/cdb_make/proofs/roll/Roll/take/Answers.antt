use Rattle.std.proofs.lemmas.Grind.{common_steps}
use Rattle.std.proofs.Common.{arith}
use Rattle.cdb_make.proofs.Words.{AreChained, IsPicked, List, Mark, ap, arith, found_of, gone_of, head_size, is_found, is_gone, length, length-map, map, marks_in, or_each, picked, places_in, refl, searched, searched_by, subst, sum, sym, taken, ℕ, ◌+◌, ◌∙◌, ◌≡◌}
use Rattle.cdb_make.proofs.Marking.{marks_full, marks_long}
use Rattle.cdb_make.proofs.Spans.{spans_of, long_as}
use Rattle.cdb_make.proofs.Picking.{back_long, taken_marks, picks_none, picks_taken, gone_taken, found_taken, number_taken, number_most, picked_taken, picked_within, picked_none}
use Rattle.cdb_make.proofs.Survive.{or_none, number_zero}
use Rattle.cdb_make.proofs.roll.Roll.take.Goals as goal

pub overflow_add-self : goal.overflow_add-self
overflow_add-self g c =
    let m = c.mark_all.new.self in
    let ms : List Mark = marks_in m in
    omega (arith, m.picked.count, m.sought.count, number_taken ms, number_most (gone_of (map taken ms)), length-map (map taken ms) is_gone, length-map ms taken, marks_long m, m.hashes.ok)

pub overflow_add-self-2 : goal.overflow_add-self-2
overflow_add-self-2 g c =
    let m = c.mark_all.new.self in
    let ms : List Mark = marks_in m in
    let spans = spans_of (head_size g.L.Width.WORD) m.end (places_in m.places) m.spans in
    let both : sum (picked (gone_of (map taken ms)) spans.sizes) ≡ sum (picked (gone_of ms) spans.sizes) + sum (picked (found_of ms) spans.sizes) = picked_taken ms spans.sizes (omega (arith, marks_long m, m.paired, long_as spans.of)) in
    omega (arith, m.picked.size spans.sizes spans.of, m.sought.size spans.sizes spans.of, both, picked_within spans.sizes (gone_of (map taken ms)) spans.of, m.fits, g.met.L.Width.greatest_fits)

pub returns-clause-gone : goal.returns-clause-gone
returns-clause-gone g c =
    let m = c.mark_all.new.self in
    ap gone_of (taken_marks (length m.hashes.items) c.deref_mut.result.now m.marks.items c.take.new.marks _ m.marks.len c.mark_all.ensures.marked c.deref_mut.ensures.value m.marks.ok.0 c.take.ensures.marks) ∙ gone_taken (marks_in m) ∙ ap (λ (v : List Mark). or_each (gone_of v) (found_of v)) c.mark_all.ensures.all

pub invariant_of-self-clause-sought : goal.invariant_of-self-clause-sought
invariant_of-self-clause-sought g c =
    let m = c.mark_all.new.self in
    let ms : List Mark = map taken (marks_in m) in
    subst (λ (v : List Mark). IsPicked (head_size g.L.Width.WORD) (places_in m.places) m.end (found_of v) c.none-self.result) (sym (taken_marks (length m.hashes.items) c.deref_mut.result.now m.marks.items c.take.new.marks _ m.marks.len c.mark_all.ensures.marked c.deref_mut.ensures.value m.marks.ok.0 c.take.ensures.marks))
    (picks_none _ _ _ (found_of ms) _ (found_taken (marks_in m)) c.none-self.ensures.first c.none-self.ensures.count c.none-self.ensures.size)

pub invariant_of-self-clause-picked : goal.invariant_of-self-clause-picked
invariant_of-self-clause-picked g c =
    let m = c.mark_all.new.self in
    let all : Rattle.cdb_make.specs.declared.roll.Picked.Picked = record { first = c.min.result; count = m.gone.count + m.found.count; size = m.gone.size + m.found.size } in
    subst (λ (v : List Mark). IsPicked (head_size g.L.Width.WORD) (places_in m.places) m.end (gone_of v) all)
    (sym (taken_marks (length m.hashes.items) c.deref_mut.result.now m.marks.items c.take.new.marks _ m.marks.len c.mark_all.ensures.marked c.deref_mut.ensures.value m.marks.ok.0 c.take.ensures.marks))
    (picks_taken (marks_in m) m.gone m.found all (omega (arith, marks_long m, m.paired)) c.min.ensures refl refl m.picked m.sought)

pub invariant_of-self-clause-chained : goal.invariant_of-self-clause-chained
invariant_of-self-clause-chained g c =
    let m = c.mark_all.new.self in
    let new = c.take.new.self in
    let e = taken_marks (length m.hashes.items) c.deref_mut.result.now m.marks.items c.take.new.marks _ m.marks.len c.mark_all.ensures.marked c.deref_mut.ensures.value m.marks.ok.0 c.take.ensures.marks in
    let numbers : c.searched-searched.result.now ≡ searched m = c.searched-searched.ensures ∙ ap (λ (v : List ℕ). searched_by m.tagged v c.deref-2.result.now) c.deref.ensures.value ∙ ap (searched_by m.tagged m.tags.items) c.deref-2.ensures.value in
    let same = c.take.ensures.marks ∙ ap (map taken) (c.deref_mut.ensures.value ∙ sym (marks_full m c.mark_all.ensures.marked)) ∙ sym e in
    subst (λ (v : List Mark). AreChained new.heads.items new.before.items (searched m) (gone_of v)) same
    (subst (λ (v : List ℕ). AreChained new.heads.items new.before.items v (gone_of c.take.new.marks)) numbers c.take.ensures.chained)

pub invariant_of-self-clause-marked : goal.invariant_of-self-clause-marked
invariant_of-self-clause-marked g c =
    let m = c.mark_all.new.self in
    back_long (length m.hashes.items) c.deref_mut.result.now m.marks.items c.take.new.marks _ m.marks.len c.mark_all.ensures.marked c.deref_mut.ensures.value m.marks.ok.0 (ap length c.take.ensures.marks ∙ length-map c.deref_mut.result.now taken)

pub returns-then-self-eq0-clause-gone : goal.returns-then-self-eq0-clause-gone
returns-then-self-eq0-clause-gone g c =
    let m = c.args.self.now in
    let ms : List Mark = marks_in m in
    sym (or_none (gone_of ms) (found_of ms) (length-map ms is_gone ∙ sym (length-map ms is_found)) (number_zero (found_of ms) (sym m.sought.count ∙ c.if-self-eq0.true)))

pub returns-then-self-eq0-clause-size : goal.returns-then-self-eq0-clause-size
returns-then-self-eq0-clause-size g c =
    let m = c.args.self.now in
    let ms : List Mark = marks_in m in
    let spans = spans_of (head_size g.L.Width.WORD) m.end (places_in m.places) m.spans in
    let none : m.found.size ≡ 0 = m.sought.size spans.sizes spans.of ∙ ap sum (picked_none (found_of ms) spans.sizes (number_zero (found_of ms) (sym m.sought.count ∙ c.if-self-eq0.true))) in
    omega (arith, none)

pub invariant_of-self-clause-spans : goal.invariant_of-self-clause-spans
invariant_of-self-clause-spans g c = grind (arith, common_steps)

pub returns-clause-count : goal.returns-clause-count
returns-clause-count g c = grind (arith, common_steps)

pub returns-clause-linked : goal.returns-clause-linked
returns-clause-linked g c = grind (arith, common_steps)

pub returns-clause-size : goal.returns-clause-size
returns-clause-size g c = grind (arith, common_steps)

pub returns-clause-tagged : goal.returns-clause-tagged
returns-clause-tagged g c = grind (arith, common_steps)
