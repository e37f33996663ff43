use Rattle.cdb_make.proofs.Words.{all_marks, IsIn, IsLast, List, arith, get_or_default_zero, gone_of, length, slice_index, subst, sym, ℕ, ◌∙◌, ◌≡◌}
use Rattle.cdb_make.proofs.Linking.{reaches_from}
use Rattle.cdb_make.proofs.chains.Chains.start.Goals as goal

pub returns-clause-reaches : goal.returns-clause-reaches
returns-clause-reaches c =
    let s = c.args.self.now in
    let hs : List ℕ = c.args.hashes.now in
    let ms = gone_of (all_marks (length c.args.hashes.now) c.args.marks.now) in
    let count : ℕ = length s.heads.items in
    let b : ℕ = c.bucket.result in
    let is : c.index-2.result.now ≡ slice_index s.heads.items b = c.index-2.ensures ∙ get_or_default_zero s.heads.items b c.index-2.result.now c.bucket.ensures.within in
    reaches_from count b c.args.hash hs ms (length s.before.items) (length s.before.items) c.args.end c.index-2.result.now c.bucket.ensures.bucket (omega arith) c.requires.end
    (subst (IsLast (IsIn count b hs ms) (length s.before.items)) (sym is) (c.requires.chained.ends b c.bucket.ensures.within))
