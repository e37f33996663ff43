use Rattle.std.proofs.lemmas.Grind.{common_steps}
use Rattle.std.proofs.Common.{arith}
use Rattle.cdb_make.proofs.Words.{ap, arith, bucket_of, get_or_default_zero, gone_of, length, slice_index, ℕ, ◌+◌, ◌-◌, ◌∙◌, ◌≡◌}
use Rattle.cdb_make.proofs.Linking.{dropped, dropped_last}
use Rattle.cdb_make.proofs.chains.Chains.drop_entry.Goals as goal

pub returns-else-newer-eq0-clause-chained : goal.returns-else-newer-eq0-clause-chained
returns-else-newer-eq0-clause-chained c =
    let s = c.args.self.now in
    let some = c.requires.next (omega (arith, c.if-newer-eq0.false)) in
    dropped s.heads.items s.before.items c.args.hashes.now (gone_of c.args.marks.now) (c.args.newer - 1) c.args.entry c.index-left.result.now (omega (arith, some.0, c.if-newer-eq0.false)) c.requires.linked some.1 c.requires.stays some.2
    (c.index-left.ensures ∙ get_or_default_zero s.before.items c.args.entry c.index-left.result.now c.requires.linked) c.requires.chained

pub returns-then-newer-eq0-clause-chained : goal.returns-then-newer-eq0-clause-chained
returns-then-newer-eq0-clause-chained c =
    let s = c.args.self.now in
    let b : ℕ = c.bucket-bucket.result in
    let here : b ≡ bucket_of (length s.heads.items) (slice_index c.args.hashes.now c.args.entry) = c.bucket-bucket.ensures.bucket in
    let last : slice_index s.heads.items b ≡ c.args.entry + 1 = ap (slice_index s.heads.items) here ∙ c.requires.last c.if-newer-eq0.true in
    dropped_last s.heads.items s.before.items c.args.hashes.now (gone_of c.args.marks.now) b c.args.entry c.index-left.result.now c.bucket-bucket.ensures.within c.requires.linked c.requires.stays here last
    (c.index-left.ensures ∙ get_or_default_zero s.before.items c.args.entry c.index-left.result.now c.requires.linked) c.requires.chained

pub returns-then-newer-eq0-clause-head : goal.returns-then-newer-eq0-clause-head
returns-then-newer-eq0-clause-head g c = grind (arith, common_steps)
