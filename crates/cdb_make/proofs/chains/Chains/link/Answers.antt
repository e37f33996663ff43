use Rattle.cdb_make.proofs.Words.{all_marks, AreChained, List, arith, get_or_default_zero, gone_of, length, set, slice_index, subst, sym, ℕ, ◌+◌, ◌∙◌, ◌≡◌}
use Rattle.cdb_make.proofs.Linking.{linked, linked_gone}
use Rattle.cdb_make.proofs.chains.Chains.link.Goals as goal

pub returns-then-not-is_gone_of_all-clause-chained : goal.returns-then-not-is_gone_of_all-clause-chained
returns-then-not-is_gone_of_all-clause-chained c =
    let s = c.args.self.now in
    let n : ℕ = c.len-entry.result in
    let at : n ≡ length s.before.items = omega (arith, c.len-entry.ensures, s.before.ok.0) in
    let lt = c.requires.some in
    let is : c.index.result.now ≡ slice_index s.heads.items c.bucket-bucket.result = c.index.ensures ∙ get_or_default_zero s.heads.items c.bucket-bucket.result c.index.result.now c.bucket-bucket.ensures.within in
    let stays = sym (c.is_gone_of_all.ensures (length c.args.hashes.now) c.requires.long (omega (arith, at, lt))) ∙ c.if-not-is_gone_of_all.true in
    subst (λ (v : List ℕ). AreChained (set s.heads.items c.bucket-bucket.result (n + 1)) v c.args.hashes.now (gone_of (all_marks (length c.args.hashes.now) c.args.marks.now))) (sym c.push_reserved.ensures.items)
    (linked s.heads.items s.before.items c.args.hashes.now (gone_of (all_marks (length c.args.hashes.now) c.args.marks.now)) c.bucket-bucket.result n c.index.result.now at lt c.bucket-bucket.ensures.within c.bucket-bucket.ensures.bucket is stays c.requires.chained)

pub returns-else-not-is_gone_of_all-clause-chained : goal.returns-else-not-is_gone_of_all-clause-chained
returns-else-not-is_gone_of_all-clause-chained c =
    let s = c.args.self.now in
    let n : ℕ = c.len-entry.result in
    let at : n ≡ length s.before.items = omega (arith, c.len-entry.ensures, s.before.ok.0) in
    let lt = c.requires.some in
    let gone = sym (c.is_gone_of_all.ensures (length c.args.hashes.now) c.requires.long (omega (arith, at, lt))) ∙ c.if-not-is_gone_of_all.false in
    subst (λ (v : List ℕ). AreChained s.heads.items v c.args.hashes.now (gone_of (all_marks (length c.args.hashes.now) c.args.marks.now))) (sym c.push_reserved.ensures.items)
    (linked_gone s.heads.items s.before.items c.args.hashes.now (gone_of (all_marks (length c.args.hashes.now) c.args.marks.now)) n c.index.result.now at c.requires.some gone c.requires.chained)
