use Rattle.std.proofs.lemmas.Grind.{common_steps}
use Rattle.std.proofs.Common.{arith}
use Rattle.cdb_make.proofs.Words.{marks_in, Err, LookFault, LooksAtImages, ap, arith, cases_eq, common_steps, get_or, get_or_default, inl, inr, is_gone, length-map, places_in, reads_more, rules, subst, sym, ℕ, ◌+◌, ◌∙◌, ◌≡◌}
use Rattle.cdb_make.specs.declared.key_at.LookFault.TheVariants.{Foreign}
use Rattle.cdb_make.proofs.Spans.{spans_of, place_high}
use Rattle.cdb_make.proofs.Looking.{sees_long, none_fresh, looked_none, looked_some, looked_foreign, has_it, has_it_not}
use Rattle.cdb_make.proofs.look.last_with_key.Goals.{After-place_at-next}
use Rattle.cdb_make.proofs.Marking.{marks_long}
use Rattle.cdb_make.proofs.look.last_with_key.Goals as goal

pub look_at-requires-clause-inside : goal.look_at-requires-clause-inside
look_at-requires-clause-inside g c =
    let m = c.args.roll.now in
    omega (arith, c.place_at-next.ensures, place_high (c.in-Some.n + 1) (spans_of _ m.end (places_in m.places) m.spans).of, c.requires.inside, c.loop-n.invariant.reads.size)

pub look_at-requires-clause-fits : goal.look_at-requires-clause-fits
look_at-requires-clause-fits g c =
    let m = c.args.roll.now in
    omega (arith, c.place_at-next.ensures, place_high (c.in-Some.n + 1) (spans_of _ m.end (places_in m.places) m.spans).of, m.fits, g.met.L.Width.greatest_fits)

-- where the record is that was found by its number
place_is : (g : _) (c : After-place_at-next g) → c.at-place.result ≡ get_or (places_in c.args.roll.now.places) c.in-Some.n c.args.roll.now.end
place_is g c =
    let m = c.args.roll.now in
    c.at-place.ensures.at ∙ get_or_default (places_in m.places) c.in-Some.n c.at-place.result m.end (omega (arith, c.in-Some.ensures.within, c.loop-n.invariant.within, c.requires.end, m.paired))

pub returns-in_err-look_at-clause-foreign : goal.returns-in_err-look_at-clause-foreign
returns-in_err-look_at-clause-foreign g c = λ h.
    let m = c.args.roll.now in
    let n : ℕ = c.in-Some.n in
    let was : c.in_err-look_at.field-0.0 ≡ Foreign = search (rules, h, c.from_residual.ensures) in
    let looks : LooksAtImages g.L.Width.WORD c.at-place.result c.place_at-next.result c.args.key.now (Err Foreign) (g.S.Store.image c.look_at.new.store) =
    subst (λ (o : LookFault). LooksAtImages g.L.Width.WORD c.at-place.result c.place_at-next.result c.args.key.now (Err o) (g.S.Store.image c.look_at.new.store)) was c.in_err-look_at.ensures.looks in
    record {
      each = λ b is all sees.
          let long = sees_long m all b sees in
          looked_foreign m all b n c.at-place.result c.place_at-next.result g.met.L.Width.top_is g.met.L.Width.greatest_fits.0 (omega (arith, long, c.in-Some.ensures.within, c.loop-n.invariant.within, c.requires.end)) (place_is g (goal.at.returns-in_err-look_at-clause-foreign g c).After-place_at-next) c.place_at-next.ensures sees (looks.each b is);
    }

pub returns-then-is_some-clause-last : goal.returns-then-is_some-clause-last
returns-then-is_some-clause-last g c =
    let m = c.args.roll.now in
    let inv = c.loop-n.invariant in
    let n : ℕ = c.in-Some.n in
    let h = c.in-Some.ensures in
    record {
      each = λ b is all sees.
          let long = sees_long m all b sees in
          record {
            within = omega (arith, h.within, inv.within);
            here = looked_some m all b c.args.key.now n c.at-place.result g.met.L.Width.top_is g.met.L.Width.greatest_fits.0 (omega (arith, long, h.within, inv.within, c.requires.end)) (omega (arith, long, length-map (marks_in m) is_gone, (marks_long m))) (place_is g (goal.at.returns-then-is_some-clause-last g c).After-place_at-next) sees
                (has_it c.in_ok-look_at.field-0 (sym c.if-is_some.ensures) c.in_ok-look_at.ensures.looks b is) h.here.stays;
            none = λ k low. none_fresh m all b c.args.key.now c.args.sought (n + 1) c.loop-n.before c.args.end c.requires.hash inv.within c.requires.end sees
                (λ k low. h.none k (omega (arith, low))) (inv.none b (c.look_at.ensures.reads.images b is) all sees) k (omega (arith, low));
          };
    }

pub returns-then-is_some-clause-reads : goal.returns-then-is_some-clause-reads
returns-then-is_some-clause-reads g c = reads_more c.loop-n.invariant.reads c.look_at.ensures.reads

pub loop-n-preserved : goal.loop-n-preserved
loop-n-preserved g c =
    let m = c.args.roll.now in
    let inv = c.loop-n.invariant in
    let n : ℕ = c.in-Some.n in
    let h = c.in-Some.ensures in
    record {
      within = omega (arith, h.within, inv.within);
      none = λ b is all sees k low high fresh.
          let long = sees_long m all b sees in
          elim (cases_eq k n) [
            | inl e ↦ looked_none m all b c.args.key.now k c.at-place.result g.met.L.Width.top_is g.met.L.Width.greatest_fits.0 (omega (arith, long, c.requires.end)) (omega (arith, long, length-map (marks_in m) is_gone, (marks_long m))) (place_is g (goal.at.loop-n-preserved g c).After-place_at-next ∙ ap (λ (v : ℕ). get_or (places_in m.places) v m.end) (sym e)) sees
                (has_it_not c.in_ok-look_at.field-0 (sym c.if-is_some.ensures) c.in_ok-look_at.ensures.looks b is) fresh
            | inr apart ↦ none_fresh m all b c.args.key.now c.args.sought (n + 1) c.loop-n.before c.args.end c.requires.hash inv.within c.requires.end sees
                (λ k low. h.none k (omega (arith, low))) (inv.none b (c.look_at.ensures.reads.images b is) all sees) k (omega (arith, low, apart)) high fresh
          ];
      failures = c.in_ok-look_at.ensures.ok_failures ∙ inv.failures;
      reads = reads_more inv.reads c.look_at.ensures.reads;
    }

pub returns-clause-last : goal.returns-clause-last
returns-clause-last g c = record {
  each = λ b is all sees k high.
      none_fresh c.args.roll.now all b c.args.key.now c.args.sought 0 c.loop-n.before c.args.end c.requires.hash c.loop-n.invariant.within c.requires.end sees
      (λ k low. c.in_default.ensures k) (c.loop-n.invariant.none b is all sees) k (omega arith) high;
}

pub returns-then-is_some-clause-failed : goal.returns-then-is_some-clause-failed
returns-then-is_some-clause-failed g c = grind (arith, common_steps)

pub returns-in_err-look_at-clause-reads : goal.returns-in_err-look_at-clause-reads
returns-in_err-look_at-clause-reads g c = reads_more c.loop-n.invariant.reads c.look_at.ensures.reads

pub returns-then-is_some-clause-foreign : goal.returns-then-is_some-clause-foreign
returns-then-is_some-clause-foreign g c = grind (arith, common_steps)
