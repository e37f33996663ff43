use Rattle.cdb_make.proofs.Words.{AreChained, Bool, IsPicked, List, Mark, Picked, all_marks, ap, arith, gone_of, false, true, length, marks_in, set, common_steps, found_of, get_or, get_or_default, head_size, is_found, length-map, length-set, map-set, places_in, refl, searched, subst, sym, ℕ, ◌+◌, ◌-◌, ◌∙◌, ◌≡◌}
use Rattle.cdb_make.specs.declared.mark.Mark.TheVariants.{Found}
use Rattle.cdb_make.proofs.Spans.{spans_of}
use Rattle.cdb_make.proofs.Marking.{marks_long}
use Rattle.cdb_make.proofs.Picking.{set_marks, picks_set, gone_set, number_most, picked_within}
use Rattle.cdb_make.proofs.roll.Roll.find.Goals.{After-mark_all}
use Rattle.cdb_make.proofs.roll.Roll.find.Goals as goal

-- the marks with that of the record
noted : (g : _) (c : After-mark_all g) → all_marks (length c.mark_all.new.self.hashes.items) (set c.mark_all.new.self.marks.items c.args.n Found) ≡ set (marks_in c.mark_all.new.self) c.args.n Found
noted g c = set_marks (length c.mark_all.new.self.hashes.items) c.mark_all.new.self.marks.items c.args.n Found c.mark_all.ensures.marked

stays : (g : _) (c : After-mark_all g) → get_or (gone_of (marks_in c.mark_all.new.self)) c.args.n true ≡ false
stays g c = ap (λ (v : List Mark). get_or (gone_of v) c.args.n true) c.mark_all.ensures.all ∙ c.requires.stays

pub returns-clause-found : goal.returns-clause-found
returns-clause-found g c =
    ap found_of (noted g (goal.at.returns-clause-found g c).After-mark_all) ∙ map-set is_found (marks_in c.mark_all.new.self) c.args.n Found ∙ ap (λ (v : List Mark). set (found_of v) c.args.n true) c.mark_all.ensures.all

pub returns-clause-gone : goal.returns-clause-gone
returns-clause-gone g c =
    let q = (goal.at.returns-clause-gone g c).After-mark_all in
    ap gone_of (noted g q) ∙ gone_set (marks_in c.mark_all.new.self) c.args.n (stays g q) ∙ ap gone_of c.mark_all.ensures.all

pub invariant_of-self-clause-sought : goal.invariant_of-self-clause-sought
invariant_of-self-clause-sought g c =
    let m = c.mark_all.new.self in
    let n : ℕ = c.args.n in
    let ms : List Bool = found_of (marks_in m) in
    let q : Picked = record { first = n; count = m.found.count + 1; size = m.found.size + (c.place_at.result - c.at.result) } in
    let place : c.at.result ≡ get_or (places_in m.places) n m.end = c.at.ensures.at ∙ get_or_default (places_in m.places) n c.at.result m.end (omega (arith, c.requires.within, m.paired, ap length c.mark_all.ensures.same.hashes)) in
    let size : q.size ≡ m.found.size + (get_or (places_in m.places) (n + 1) m.end - get_or (places_in m.places) n m.end) = omega (arith, place, c.place_at.ensures) in
    subst (λ (v : List Bool). IsPicked (head_size g.L.Width.WORD) (places_in m.places) m.end v q) (sym (ap found_of (noted g (goal.at.invariant_of-self-clause-sought g c).After-mark_all) ∙ map-set is_found (marks_in m) n Found))
    (picks_set ms m.found q n (omega (arith, length-map (marks_in m) is_found, marks_long m, m.paired)) (omega (arith, length-map (marks_in m) is_found, marks_long m, c.requires.within, ap length c.mark_all.ensures.same.hashes)) (omega (arith, c.requires.before, ap (λ (p : Picked). p.first) c.mark_all.ensures.found)) refl refl size m.sought)

pub overflow_add-self : goal.overflow_add-self
overflow_add-self g c =
    let m = c.mark_all.new.self in
    omega (arith, m.sought.count, number_most (found_of (marks_in m)), length-map (marks_in m) is_found, marks_long m, m.hashes.ok)

pub overflow_add-self-2 : goal.overflow_add-self-2
overflow_add-self-2 g c =
    let m = c.mark_all.new.self in
    let spans = spans_of (head_size g.L.Width.WORD) m.end (places_in m.places) m.spans in
    omega (arith, m.sought.size spans.sizes spans.of, picked_within spans.sizes (found_of (marks_in m)) spans.of, m.fits, g.met.L.Width.greatest_fits, c.place_at.ensures, Rattle.cdb_make.proofs.Spans.place_high (c.args.n + 1) spans.of)

pub invariant_of-self-clause-chained : goal.invariant_of-self-clause-chained
invariant_of-self-clause-chained g c =
    let m = c.mark_all.new.self in
    let q = (goal.at.invariant_of-self-clause-chained g c).After-mark_all in
    subst (AreChained m.chains.heads.items m.chains.before.items (searched m)) (sym (ap gone_of (noted g q) ∙ gone_set (marks_in m) c.args.n (stays g q))) m.chained

pub invariant_of-self-clause-picked : goal.invariant_of-self-clause-picked
invariant_of-self-clause-picked g c =
    let m = c.mark_all.new.self in
    let q = (goal.at.invariant_of-self-clause-picked g c).After-mark_all in
    subst (λ (v : List Bool). IsPicked (head_size g.L.Width.WORD) (places_in m.places) m.end v m.gone) (sym (ap gone_of (noted g q) ∙ gone_set (marks_in m) c.args.n (stays g q))) m.picked

pub invariant_of-self-clause-marked : goal.invariant_of-self-clause-marked
invariant_of-self-clause-marked g c = omega (arith, length-set c.mark_all.new.self.marks.items c.args.n Found, c.mark_all.ensures.marked)

pub returns-clause-room : goal.returns-clause-room
returns-clause-room g c = λ has.
    let h = c.mark_all.ensures.has has in
    record { hashes = h.hashes; tags = h.tags; places = h.places; marks = h.marks }

pub overflow_sub-size : goal.overflow_sub-size
overflow_sub-size g c = grind (arith, common_steps)
