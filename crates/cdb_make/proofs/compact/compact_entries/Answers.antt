use Rattle.std.proofs.lemmas.Grind.{common_steps}
use Rattle.std.proofs.Common.{arith}
use Rattle.cdb_make.proofs.Words.{Bool, List, [], ap, arith, common_steps, end_from, false, get_or, get_or-set_other, get_or_default, gone_of, is_gone, left, length, length-map, length-set, places_from, places_in, refl, sym, take, take_more_set, true, ℕ, ◌++◌, ◌+◌, ◌<◌, ◌∙◌, ◌∷◌, ◌≡◌}
use Rattle.cdb_make.proofs.Spans.{place_next, place_size, long_as, left_live, left_gone, left_all, left_none, place_is, places_take, places_more, end_more}
use Rattle.cdb_make.proofs.compact.compact_entries.Goals as goal

pub loop-n-init : goal.loop-n-init
loop-n-init g c =
    let first : ℕ = c.args.first in
    let gone : List Bool = gone_of c.args.marks.now in
    let many : length gone ≡ length c.args.marks.now = length-map c.args.marks.now is_gone in
    let at = c.place_at-to.ensures in
    record {
      behind = omega arith;
      room = refl;
      past = omega arith;
      long = refl;
      paired = refl;
      up = omega (arith, at);
      later = λ k le. refl;
      later_hashes = λ k le. refl;
      hashes = sym (left_none first gone c.args.hashes.now (omega (arith, many, c.requires.long, c.requires.paired)) c.requires.first.before);
      of = λ sizes of.
          let e = left_none first gone sizes (omega (arith, many, c.requires.long, long_as of)) c.requires.first.before in
          record {
            are = ap (take first) of.are ∙ places_take c.args.start first sizes ∙ ap (places_from c.args.start) (sym e);
            ends = at ∙ place_is first of ∙ ap (end_from c.args.start) (sym e);
          };
    }

pub overflow_sub-size : goal.overflow_sub-size
overflow_sub-size g c =
    let k : ℕ = c.loop-n.n in
    let here = c.at.ensures.at ∙ get_or_default (places_in c.loop-n.places) k c.at.result c.args.end (omega (arith, c.loop-n-test.true, c.requires.long, c.loop-n.invariant.long)) in
    omega (arith, here, c.loop-n.invariant.later k (omega arith), c.loop-n.invariant.later (k + 1) (omega arith), c.place_at.ensures, place_next k c.requires.spans.of)

pub loop-n-preserved-then-is_gone_at : goal.loop-n-preserved-then-is_gone_at
loop-n-preserved-then-is_gone_at g c =
    let k : ℕ = c.loop-n.n in
    let inv = c.loop-n.invariant in
    let is : get_or (gone_of c.args.marks.now) k true ≡ true = sym c.is_gone_at.ensures ∙ c.if-is_gone_at.true in
    let many : length (gone_of c.args.marks.now) ≡ length c.args.marks.now = length-map c.args.marks.now is_gone in
    let lt : k < length (gone_of c.args.marks.now) = omega (arith, many, c.loop-n-test.true) in
    let long : length (gone_of c.args.marks.now) ≡ length (places_in c.args.places.now) = many ∙ c.requires.long in
    record {
      behind = omega (arith, inv.behind);
      room = inv.room;
      past = inv.past;
      long = inv.long;
      paired = inv.paired;
      up = omega (arith, inv.up, place_next k c.requires.spans.of);
      later = λ j le. inv.later j (omega arith);
      later_hashes = λ j le. inv.later_hashes j (omega arith);
      hashes = inv.hashes ∙ sym (left_gone (gone_of c.args.marks.now) c.args.hashes.now k 0 lt (long ∙ sym c.requires.paired) is);
      of = λ sizes of.
          let o = inv.of sizes of in
          let e = left_gone (gone_of c.args.marks.now) sizes k 0 lt (long ∙ long_as of) is in
          record { are = o.are ∙ ap (places_from c.args.start) (sym e); ends = o.ends ∙ ap (end_from c.args.start) (sym e) };
    }

pub loop-n-preserved : goal.loop-n-preserved
loop-n-preserved g c =
    let k : ℕ = c.loop-n.n in
    let n : ℕ = c.loop-n.count in
    let inv = c.loop-n.invariant in
    let ps : List ℕ = places_in c.loop-n.places in
    let hs : List ℕ = c.loop-n.hashes in
    let gone = gone_of c.args.marks.now in
    let start : ℕ = c.args.start in
    let many : length gone ≡ length c.args.marks.now = length-map c.args.marks.now is_gone in
    let lt : k < length gone = omega (arith, many, c.loop-n-test.true) in
    let stays : get_or gone k false ≡ false = get_or_default gone k false true lt ∙ sym c.is_gone_at.ensures ∙ c.if-is_gone_at.false in
    let in_places : k < length ps = omega (arith, c.loop-n-test.true, c.requires.long, inv.long) in
    let here : c.at.result ≡ get_or (places_in c.args.places.now) k c.args.end = c.at.ensures.at ∙ get_or_default ps k c.at.result c.args.end in_places ∙ inv.later k (omega arith) in
    let next : c.place_at.result ≡ get_or (places_in c.args.places.now) (k + 1) c.args.end = c.place_at.ensures ∙ inv.later (k + 1) (omega arith) in
    let hash : get_or hs k 0 ≡ get_or c.args.hashes.now k 0 = inv.later_hashes k (omega arith) in
    record {
      behind = omega (arith, inv.behind);
      room = c.set.ensures.room ∙ inv.room;
      past = omega (arith, inv.past);
      long = ap length c.set.ensures.places ∙ length-set ps n c.loop-n.to ∙ inv.long;
      paired = length-set hs n (get_or hs k 0) ∙ inv.paired;
      up = omega (arith, inv.up, here, next, place_next k c.requires.spans.of);
      later = λ j le. ap (λ (v : List ℕ). get_or v j c.args.end) c.set.ensures.places ∙ get_or-set_other ps n j c.loop-n.to c.args.end (λ e. omega (arith, inv.behind)) ∙ inv.later j (omega arith);
      later_hashes = λ j le. get_or-set_other hs n j (get_or hs k 0) 0 (λ e. omega (arith, inv.behind)) ∙ inv.later_hashes j (omega arith);
      hashes =
          take_more_set hs n (get_or hs k 0) (omega (arith, inv.behind, inv.paired, c.requires.paired, c.requires.long, c.loop-n-test.true))
          ∙ ap (λ (v : List ℕ). v ++ get_or hs k 0 ∷ []) inv.hashes
          ∙ ap (λ (h : ℕ). left (take k gone) (take k c.args.hashes.now) ++ h ∷ []) hash
          ∙ sym (left_live gone c.args.hashes.now k 0 lt (many ∙ c.requires.long ∙ sym c.requires.paired) stays);
      of = λ sizes of.
          let o = inv.of sizes of in
          let ls : List ℕ = left (take k gone) (take k sizes) in
          let s : ℕ = get_or sizes k 0 in
          let long : length gone ≡ length sizes = many ∙ c.requires.long ∙ long_as of in
          let e = left_live gone sizes k 0 lt long stays in
          let last : end_from start (left (take (k + 1) gone) (take (k + 1) sizes)) ≡ end_from start ls + s = ap (end_from start) e ∙ end_more start s ls in
          record {
            are =
                ap (take (n + 1)) c.set.ensures.places
                ∙ take_more_set ps n c.loop-n.to (omega (arith, inv.behind))
                ∙ ap (λ (v : List ℕ). v ++ c.loop-n.to ∷ []) o.are
                ∙ ap (λ (v : ℕ). places_from start ls ++ v ∷ []) o.ends
                ∙ sym (places_more start s ls)
                ∙ ap (places_from start) (sym e);
            ends = omega (arith, last, o.ends, here, next, place_size k of (omega (arith, c.loop-n-test.true)));
          };
    }

pub returns-clause-of : goal.returns-clause-of
returns-clause-of g c = λ sizes of.
    let o = c.loop-n.invariant.of sizes of in
    let e = left_all (gone_of c.args.marks.now) sizes c.loop-n.n (let many : length (gone_of c.args.marks.now) ≡ length c.args.marks.now = length-map c.args.marks.now is_gone in omega (arith, many, c.loop-n-test.false)) (length-map c.args.marks.now is_gone ∙ c.requires.long ∙ long_as of) in
    record { are = o.are ∙ ap (places_from c.args.start) e; ends = o.ends ∙ ap (end_from c.args.start) e }

pub set-requires-clause-fits : goal.set-requires-clause-fits
set-requires-clause-fits g c = grind (arith, common_steps)

pub overflow_add-to : goal.overflow_add-to
overflow_add-to g c = grind (arith, common_steps)

pub returns-clause-within : goal.returns-clause-within
returns-clause-within g c = grind (arith, common_steps)
