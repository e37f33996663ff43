use Rattle.cdb_make.proofs.Words.{Bool, List, [], ap, arith, false, get_or, get_or-set_other, get_or_default, gone_of, is_gone, left, length, length-map, length-set, refl, sym, take, take_more_set, true, ℕ, ◌++◌, ◌<◌, ◌∙◌, ◌∷◌, ◌≡◌}
use Rattle.cdb_make.proofs.Spans.{left_live, left_gone, left_none}
use Rattle.cdb_make.proofs.tags.compact_each.Goals as goal

pub loop-n-init : goal.loop-n-init
loop-n-init c =
    let first : ℕ = c.args.first in
    let gone : List Bool = gone_of c.args.marks.now in
    let many : length gone ≡ length c.args.marks.now = length-map c.args.marks.now is_gone in
    record {
      behind = omega arith;
      up = omega (arith, many, c.requires.first.within);
      long = refl;
      later = λ k le. refl;
      tags = sym (left_none first gone c.args.tags.now (omega (arith, many, c.requires.long)) c.requires.first.before);
    }

pub loop-n-preserved-then-is_gone_at : goal.loop-n-preserved-then-is_gone_at
loop-n-preserved-then-is_gone_at c =
    let k : ℕ = c.loop-n.n in
    let inv = c.loop-n.invariant in
    let gone : List Bool = gone_of c.args.marks.now in
    let is : get_or gone k true ≡ true = sym c.is_gone_at.ensures ∙ c.if-is_gone_at.true in
    let many : length gone ≡ length c.args.marks.now = length-map c.args.marks.now is_gone in
    let lt : k < length gone = omega (arith, many, c.loop-n-test.true) in
    record {
      behind = omega (arith, inv.behind);
      up = omega (arith, c.loop-n-test.true);
      long = inv.long;
      later = λ j le. inv.later j (omega arith);
      tags = inv.tags ∙ sym (left_gone gone c.args.tags.now k 0 lt (many ∙ c.requires.long) is);
    }

pub loop-n-preserved : goal.loop-n-preserved
loop-n-preserved c =
    let k : ℕ = c.loop-n.n in
    let n : ℕ = c.loop-n.count in
    let inv = c.loop-n.invariant in
    let ts : List ℕ = c.loop-n.tags in
    let gone : List Bool = gone_of c.args.marks.now in
    let many : length gone ≡ length c.args.marks.now = length-map c.args.marks.now is_gone in
    let lt : k < length gone = omega (arith, many, c.loop-n-test.true) in
    let stays : get_or gone k false ≡ false = get_or_default gone k false true lt ∙ sym c.is_gone_at.ensures ∙ c.if-is_gone_at.false in
    let tag : get_or ts k 0 ≡ get_or c.args.tags.now k 0 = inv.later k (omega arith) in
    record {
      behind = omega (arith, inv.behind);
      up = omega (arith, c.loop-n-test.true);
      long = length-set ts n (get_or ts k 0) ∙ inv.long;
      later = λ j le. get_or-set_other ts n j (get_or ts k 0) 0 (λ e. omega (arith, inv.behind)) ∙ inv.later j (omega arith);
      tags =
          take_more_set ts n (get_or ts k 0) (omega (arith, inv.behind, inv.long, c.requires.long, c.loop-n-test.true))
          ∙ ap (λ (v : List ℕ). v ++ get_or ts k 0 ∷ []) inv.tags
          ∙ ap (λ (h : ℕ). left (take k gone) (take k c.args.tags.now) ++ h ∷ []) tag
          ∙ sym (left_live gone c.args.tags.now k 0 lt (many ∙ c.requires.long) stays);
    }
