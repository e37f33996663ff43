use Rattle.cdb_make.proofs.Words.{all_marks, List, Reaches, arith, get_or_default_zero, gone_of, length, slice_index, subst, sym, ℕ, ◌-◌, ◌<◌, ◌∙◌, ◌≡◌, ◌≤◌}
use Rattle.cdb_make.proofs.Linking.{reaches_step}
use Rattle.cdb_make.proofs.chains.Chains.last_linked.Goals.{else-at-end-via-then-at-end+else-hashes-at, else-at-end-via-else-at-end}
use Rattle.cdb_make.proofs.chains.Chains.last_linked.Goals as goal

-- the entry before one that has another hash
onward : (c : goal.After-row_known-1) → Reaches (length c.args.self.now.heads.items) c.args.hash c.args.hashes.now (gone_of (all_marks (length c.args.hashes.now) c.args.marks.now)) (length c.args.self.now.before.items) c.args.end c.index.result.now × (c.index.result.now < c.loop-at.at)
onward c =
    let s = c.args.self.now in
    let hs : List ℕ = c.args.hashes.now in
    let at : ℕ = c.loop-at.at in
    let lt : at - 1 < length s.before.items = omega (arith, c.loop-at-test.true, c.loop-at.invariant.within) in
    let is : c.index.result.now ≡ slice_index s.before.items (at - 1) = c.index.ensures ∙ get_or_default_zero s.before.items (at - 1) c.index.result.now lt in
    let other : at ≤ c.args.end → slice_index hs (at - 1) ≡ c.args.hash → ⊥ = elim c.else-at-end.branch [
      | else-at-end-via-then-at-end+else-hashes-at w ↦ λ le same. w.if-hashes-at.false same
      | else-at-end-via-else-at-end w ↦ λ le same. omega (arith, w.if-at-end.false)
    ] in
    subst (λ (n : ℕ). Reaches (length s.heads.items) c.args.hash hs (gone_of (all_marks (length c.args.hashes.now) c.args.marks.now)) (length s.before.items) c.args.end n × (n < at)) (sym is)
    (reaches_step s.heads.items s.before.items hs (gone_of (all_marks (length c.args.hashes.now) c.args.marks.now)) c.args.hash c.args.end at c.requires.chained c.loop-at-test.true other c.loop-at.invariant)

pub loop-at-preserved : goal.loop-at-preserved
loop-at-preserved c = (onward c).0

pub loop-at-smaller : goal.loop-at-smaller
loop-at-smaller c = (onward c).1
