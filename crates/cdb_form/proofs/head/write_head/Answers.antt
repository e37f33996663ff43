use Rattle.cdb_form.proofs.Words.{PairFits, Pointer, [], ap, arith, common_steps, drop, empty_slot, flat_map, length, map, pair_bytes, pointer_pair, subst, sym, take, ℕ, ◌*◌, ◌++◌, ◌∙◌, ◌≡◌, ◌≤◌}
use Rattle.std.proofs.lemmas.List.{append-nil, drop_all, take_all, get_or-map, length-map}
use Rattle.std.proofs.lemmas.List.Elements.{All-get_or}
use Rattle.cdb_form.proofs.Bytes.ReadBack.{head_at-flat_map}
use Rattle.cdb_form.proofs.head.write_head.Goals as goal

abbrev blank : Pointer
blank = record { place = 0; slots = 0 }

pub write_pointer-requires-clause-fits : goal.write_pointer-requires-clause-fits
write_pointer-requires-clause-fits g c =
    let ps = c.args.head.now.pointers in
    let long : length ps ≡ 256 = omega arith in
    let one = All-get_or (PairFits g.L.Width.TOP) (map pointer_pair ps) c.loop-n.n empty_slot (simp length-map (omega arith)) c.requires.fits in
    subst (PairFits g.L.Width.TOP) (get_or-map pointer_pair ps c.loop-n.n blank empty_slot (omega arith)) one

pub returns-clause-read_back : goal.returns-clause-read_back
returns-clause-read_back g c =
    let ps = c.args.head.now.pointers in
    let long : length ps ≡ 256 = omega arith in
    let w = g.L.Width.WORD in
    let n = c.loop-n.n in
    let all : n ≡ 256 = omega arith in
    let past : length c.args.into.now ≤ 2 * w * n = subst (λ (k : ℕ). length c.args.into.now ≤ 2 * w * k) (sym all) (omega (arith, c.requires.long)) in
    let whole : take n ps ≡ ps = take_all n ps (omega arith) in
    let none : drop (2 * w * n) c.args.into.now ≡ [] = drop_all (2 * w * n) c.args.into.now past in
    let written : c.loop-n.into ≡ flat_map (pair_bytes w) (map pointer_pair ps) =
    c.loop-n.invariant.written ∙ ap (λ t. flat_map (pair_bytes w) (map pointer_pair t) ++ drop (2 * w * n) c.args.into.now) whole
    ∙ ap (λ t. flat_map (pair_bytes w) (map pointer_pair ps) ++ t) none ∙ append-nil (flat_map (pair_bytes w) (map pointer_pair ps)) in
    head_at-flat_map w g.L.Width.TOP (map pointer_pair ps) c.loop-n.into g.met.L.Width.top_is (length-map ps pointer_pair ∙ long) c.requires.fits written

pub returns-clause-written : goal.returns-clause-written
returns-clause-written g c = grind (arith, common_steps)

pub loop-n-preserved : goal.loop-n-preserved
loop-n-preserved g c = grind (arith, common_steps)
