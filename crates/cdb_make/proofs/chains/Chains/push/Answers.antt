use Rattle.cdb_make.proofs.Words.{AreChained, List, ap, arith, bucket_of, get_or_default_zero, length, set, slice_index, subst, sym, ℕ, ◌+◌, ◌∙◌, ◌≡◌}
use Rattle.cdb_make.proofs.Linking.{linked}
use Rattle.cdb_make.proofs.chains.Chains.push.Goals as goal

pub returns-then-has_room-clause-chained : goal.returns-then-has_room-clause-chained
returns-then-has_room-clause-chained c = λ hashes marks chained some here stays.
    let s = c.args.self.now in
    let n : ℕ = c.args.entry in
    let b : ℕ = c.bucket-bucket.result in
    let at : n ≡ length s.before.items = omega (arith, c.len.ensures, s.before.ok.0, c.if-entry-len.true) in
    let is : c.index.result.now ≡ slice_index s.heads.items b = c.index.ensures ∙ get_or_default_zero s.heads.items b c.index.result.now c.bucket-bucket.ensures.within in
    let its : b ≡ bucket_of (length s.heads.items) (slice_index hashes n) = c.bucket-bucket.ensures.bucket ∙ ap (bucket_of (length s.heads.items)) (sym (here c.if-wanted.true)) in
    subst (λ (v : List ℕ). AreChained (set s.heads.items b (n + 1)) v hashes marks) (sym c.push_reserved.ensures.items)
    (linked s.heads.items s.before.items hashes marks b n c.index.result.now at (omega (arith, some, at)) c.bucket-bucket.ensures.within its is stays chained)
