use Rattle.cdb_make.proofs.Words.{AreSized, Copied, ap, arith, behind, cases_lt, common_steps, false, get_or, get_or_default, get_or_past, gone_of, inl, inr, is_gone, length, length-map, on_ok_weaker, places_in, refl, subst, sum, sum_by_push, sym, take, true, ℕ, ◌+◌, ◌-◌, ◌<◌, ◌∙◌, ◌≡◌}
use Rattle.cdb_store.proofs.Moves.{kept_within}
use Rattle.cdb_make.proofs.Spans.{place_low, place_high, place_next, place_size, long_as, behind_none, behind_live, behind_gone, behind_all, amid_begun, amid_live, amid_more, amid_ended, kept_then}
use Rattle.cdb_make.proofs.compact.compact_bytes.Goals as goal

pub loop-n-init : goal.loop-n-init
loop-n-init g c =
    let k : ℕ = c.args.first in
    let at = c.place_at-from.ensures in
    record {
      low = omega (arith, at, place_low k c.requires.spans.of);
      order = omega arith;
      up = omega (arith, at);
      amid = amid_begun at (length-map c.args.marks.now is_gone ∙ c.requires.long) c.requires.first.before;
      written = λ sizes of. (let z : sum (behind (take k (gone_of c.args.marks.now)) (take k sizes)) ≡ 0 = ap sum (behind_none k (gone_of c.args.marks.now) sizes c.requires.first.before) in omega (arith, at));
      head = record { each = λ b is. (b, is, refl) };
      size = refl;
      room = omega arith;
      failures = refl;
      unwritten = omega arith;
    }

pub loop-n-preserved-then-not-is_gone_at : goal.loop-n-preserved-then-not-is_gone_at
loop-n-preserved-then-not-is_gone_at g c =
    let k : ℕ = c.loop-n.n in
    let first : ℕ = c.args.first in
    let gone = gone_of c.args.marks.now in
    let inv = c.loop-n.invariant in
    let many : length gone ≡ length c.args.marks.now = length-map c.args.marks.now is_gone in
    let lt : k < length gone = omega (arith, many, c.loop-n-test.true) in
    let stays : get_or gone k false ≡ false = get_or_default gone k false true lt ∙ sym c.is_gone_at.ensures ∙ c.if-not-is_gone_at.true in
    let marked : get_or gone first false ≡ true = c.requires.first.here (omega (arith, c.loop-n.auto.n, c.loop-n-test.true)) in
    let up : first < k = elim (cases_lt first k) [
      | inl above ↦ above
      | inr le ↦ absurd (let e : first ≡ k = omega (arith, c.loop-n.auto.n) in let t : true ≡ false = sym marked ∙ ap (λ (n : ℕ). get_or gone n false) e ∙ stays in cc)
    ] in
    record {
      low = inv.low;
      order = inv.order;
      up = omega (arith, inv.up, place_next k c.requires.spans.of);
      amid = amid_live inv.up lt (length-map c.args.marks.now is_gone ∙ c.requires.long) stays inv.amid;
      written = λ sizes of.
          let long = (length-map c.args.marks.now is_gone ∙ c.requires.long) ∙ long_as of in
          let s : sum (behind (take (k + 1) gone) (take (k + 1) sizes)) ≡ sum (behind (take k gone) (take k sizes)) + get_or sizes k 0 =
          ap sum (behind_live gone sizes first k 0 up lt long marked stays) ∙ sum_by_push (λ (n : ℕ). n) (behind (take k gone) (take k sizes)) (get_or sizes k 0) in
          omega (arith, s, inv.written sizes of, place_size k of (omega (arith, c.loop-n-test.true)));
      head = inv.head;
      size = inv.size;
      room = inv.room;
      failures = inv.failures;
      unwritten = inv.unwritten;
    }

pub loop-n-preserved : goal.loop-n-preserved
loop-n-preserved g c =
    let k : ℕ = c.loop-n.n in
    let gone = gone_of c.args.marks.now in
    let places = places_in c.args.places.now in
    let inv = c.loop-n.invariant in
    let w = c.in_ok-move_down.ensures in
    let many : length gone ≡ length c.args.marks.now = length-map c.args.marks.now is_gone in
    let lt : k < length gone = omega (arith, many, c.loop-n-test.true) in
    let place : c.at-place.result ≡ get_or places k c.args.end = c.at-place.ensures.at ∙ get_or_default places k c.at-place.result c.args.end (omega (arith, c.loop-n-test.true, c.requires.long)) in
    let next = c.place_at-from-in-loop-n.ensures in
    let high = place_high k c.requires.spans.of in
    let rise = place_next k c.requires.spans.of in
    let marked : get_or gone k true ≡ true = sym c.is_gone_at.ensures ∙ c.if-not-is_gone_at.false in
    let sized : AreSized (g.S.Store.size c.loop-n.store) (g.S.Store.image c.loop-n.store) = record { each = g.met.S.Store.image_size c.loop-n.store } in
    record {
      low = omega (arith, inv.low);
      order = omega (arith, inv.order, inv.up, place, next, rise);
      up = omega (arith, next);
      amid =
          amid_more {size = g.S.Store.size c.loop-n.store} inv.low inv.order inv.up (omega (arith, high, c.requires.inside, inv.size)) (omega (arith, next, rise)) next (ap (λ (p : ℕ). c.loop-n.to + (p - c.loop-n.from)) place) lt (length-map c.args.marks.now is_gone ∙ c.requires.long) marked sized inv.amid
          (subst (λ (p : ℕ). Copied c.loop-n.from c.loop-n.to (p - c.loop-n.from) (g.S.Store.image c.loop-n.store) (g.S.Store.image c.move_down.new.store)) place w.copied);
      written = λ sizes of.
          let s : sum (behind (take (k + 1) gone) (take (k + 1) sizes)) ≡ sum (behind (take k gone) (take k sizes)) = ap sum (behind_gone gone sizes k 0 lt ((length-map c.args.marks.now is_gone ∙ c.requires.long) ∙ long_as of) marked) in
          omega (arith, s, inv.written sizes of, w.written, place, next, inv.up);
      head = kept_then inv.head (kept_within 0 c.args.start (inl (omega (arith, inv.low))) c.move_down.ensures.torn);
      size = c.move_down.ensures.size ∙ inv.size;
      room = omega (arith, inv.room, c.move_down.ensures.room);
      failures = w.ok_failures ∙ inv.failures;
      unwritten = omega (arith, inv.unwritten, c.move_down.ensures.unwritten);
    }

pub move_down-requires-clause-inside : goal.move_down-requires-clause-inside
move_down-requires-clause-inside g c =
    let k : ℕ = c.loop-n.n in
    let place = c.at-place.ensures.at ∙ get_or_default (places_in c.args.places.now) k c.at-place.result c.args.end (omega (arith, c.loop-n-test.true, c.requires.long)) in
    omega (arith, place, place_high k c.requires.spans.of, c.loop-n.invariant.up, c.requires.inside, c.loop-n.invariant.size)

pub move_down-requires-clause-end : goal.move_down-requires-clause-end
move_down-requires-clause-end g c =
    let k : ℕ = c.loop-n.n in
    let place = c.at-place.ensures.at ∙ get_or_default (places_in c.args.places.now) k c.at-place.result c.args.end (omega (arith, c.loop-n-test.true, c.requires.long)) in
    omega (arith, place, place_high k c.requires.spans.of, c.loop-n.invariant.up, c.requires.fits)

pub returns-in_err-move_down-clause-head : goal.returns-in_err-move_down-clause-head
returns-in_err-move_down-clause-head g c = kept_then c.loop-n.invariant.head (kept_within 0 c.args.start (inl (omega (arith, c.loop-n.invariant.low))) c.move_down.ensures.torn)

pub returns-clause-head : goal.returns-clause-head
returns-clause-head g c = kept_then c.loop-n.invariant.head (kept_within 0 c.args.start (inl (omega (arith, c.loop-n.invariant.low))) c.move_down-2.ensures.torn)

pub returns-clause-turns : goal.returns-clause-turns
returns-clause-turns g c =
    let inv = c.loop-n.invariant in
    let last : get_or (places_in c.args.places.now) c.loop-n.n c.args.end ≡ c.args.end = get_or_past (places_in c.args.places.now) c.loop-n.n c.args.end (omega (arith, c.loop-n-test.false, c.requires.long)) in
    let sized : AreSized (g.S.Store.size c.loop-n.store) (g.S.Store.image c.loop-n.store) = record { each = g.met.S.Store.image_size c.loop-n.store } in
    let after : AreSized (g.S.Store.size c.loop-n.store) (g.S.Store.image c.move_down-2.new.store) = record { each = λ b is. g.met.S.Store.image_size c.move_down-2.new.store b is ∙ c.move_down-2.ensures.size } in
    on_ok_weaker c.move_down-2.result
    (λ w. amid_ended {size = g.S.Store.size c.loop-n.store} inv.low inv.order (omega (arith, inv.up, last)) (omega (arith, c.requires.inside, inv.size)) last (let many : length (gone_of c.args.marks.now) ≡ length c.args.marks.now = length-map c.args.marks.now is_gone in omega (arith, many, c.loop-n-test.false)) (length-map c.args.marks.now is_gone ∙ c.requires.long) sized inv.amid w after)
    c.move_down-2.ensures.copied

pub returns-clause-written : goal.returns-clause-written
returns-clause-written g c = λ sizes of.
    let inv = c.loop-n.invariant in
    let last : get_or (places_in c.args.places.now) c.loop-n.n c.args.end ≡ c.args.end = get_or_past (places_in c.args.places.now) c.loop-n.n c.args.end (omega (arith, c.loop-n-test.false, c.requires.long)) in
    let s : sum (behind (take c.loop-n.n (gone_of c.args.marks.now)) (take c.loop-n.n sizes)) ≡ sum (behind (gone_of c.args.marks.now) sizes) = ap sum (behind_all (gone_of c.args.marks.now) sizes c.loop-n.n (let many : length (gone_of c.args.marks.now) ≡ length c.args.marks.now = length-map c.args.marks.now is_gone in omega (arith, many, c.loop-n-test.false)) ((length-map c.args.marks.now is_gone ∙ c.requires.long) ∙ long_as of)) in
    on_ok_weaker c.move_down-2.result (λ w. omega (arith, w, s, last, inv.written sizes of, inv.up)) c.move_down-2.ensures.written

pub overflow_sub-to : goal.overflow_sub-to
overflow_sub-to g c = grind (arith, common_steps)

pub overflow_sub-place : goal.overflow_sub-place
overflow_sub-place g c = grind (arith, common_steps)
