use Rattle.cdb_make.proofs.Words.{AreChained, List, ap, arith, get_or_default_zero, gone_of, length, set, slice_index, subst, sym, take, ℕ, ◌+◌, ◌-◌, ◌<◌, ◌∙◌, ◌≡◌}
use Rattle.cdb_make.proofs.Linking.{unlinked, unlinked_gone}
use Rattle.cdb_make.proofs.chains.Chains.unlink.Goals.{then-not-is_gone_at, else-not-is_gone_at}
use Rattle.cdb_make.proofs.chains.Chains.unlink.Goals as goal

pub returns-clause-chained : goal.returns-clause-chained
returns-clause-chained c =
    let s = c.args.self.now in
    let hs : List ℕ = c.args.hashes.now in
    let ms = gone_of c.args.marks.now in
    let n : ℕ = c.len-entry.result - 1 in
    let at : n + 1 ≡ length s.before.items = omega (arith, c.len-entry.ensures, s.before.ok.0, c.requires.some) in
    let in_before : n < length s.before.items = omega arith in
    let in_marks : n < length c.args.marks.now = omega (arith, c.requires.long, c.requires.chained.within) in
    elim c.if-not-is_gone_at.branch [
      | then-not-is_gone_at w ↦
          let cut : c.truncate.new.self.items ≡ take n s.before.items = c.truncate.ensures.items ∙ ap (λ v. take n v.1.1.0.items) w.self-is in
          let is : w.index.result.now ≡ slice_index s.before.items n = w.index.ensures ∙ get_or_default_zero s.before.items n w.index.result.now in_before in
          let stays = sym c.is_gone_at.ensures ∙ w.if-not-is_gone_at.true in
          subst (λ v. AreChained v.1.0.items c.truncate.new.self.items hs ms) (sym w.self-is)
          (subst (λ (v : List ℕ). AreChained (set s.heads.items w.bucket-bucket.result w.index.result.now) v hs ms) (sym cut)
          (unlinked s.heads.items s.before.items hs ms w.bucket-bucket.result n w.index.result.now at w.bucket-bucket.ensures.within w.bucket-bucket.ensures.bucket is stays c.requires.chained))
      | else-not-is_gone_at w ↦
          let cut : c.truncate.new.self.items ≡ take n s.before.items = c.truncate.ensures.items ∙ ap (λ v. take n v.1.1.0.items) w.self-is in
          let gone = sym c.is_gone_at.ensures ∙ w.if-not-is_gone_at.false in
          subst (λ v. AreChained v.1.0.items c.truncate.new.self.items hs ms) (sym w.self-is)
          (subst (λ (v : List ℕ). AreChained s.heads.items v hs ms) (sym cut) (unlinked_gone s.heads.items s.before.items hs ms n at gone c.requires.chained))
    ]
