use Rattle.std.proofs.Common.{◌∙◌, sym, subst, ap, vec_capacity}
use Rattle.cdb_make.proofs.Words.{length, all_marks, AreChained, gone_of}
use Rattle.cdb_make.proofs.chains.Chains.link_all.Goals.{then-most-len-2, else-most-len-2}
use Rattle.cdb_make.proofs.chains.Chains.link_all.Goals as goal

pub link_up_to-requires-clause-chained : goal.link_up_to-requires-clause-chained
link_up_to-requires-clause-chained c = elim c.if-most-len-2.branch [
  | then-most-len-2 w ↦ subst (λ v. AreChained v.heads.items v.before.items c.args.hashes.now (gone_of (all_marks (length c.args.hashes.now) c.args.marks.now))) (sym w.self-is) (w.widen.ensures.chained c.args.hashes.now (gone_of (all_marks (length c.args.hashes.now) c.args.marks.now)))
  | else-most-len-2 w ↦ subst (λ v. AreChained v.heads.items v.before.items c.args.hashes.now (gone_of (all_marks (length c.args.hashes.now) c.args.marks.now))) (sym w.self-is) c.requires.chained
]

pub returns-clause-room : goal.returns-clause-room
returns-clause-room c = c.link_up_to.ensures.room ∙ elim c.if-most-len-2.branch [
  | then-most-len-2 w ↦ ap (λ v. vec_capacity v.before) w.self-is ∙ w.widen.ensures.capacity
  | else-most-len-2 w ↦ ap (λ v. vec_capacity v.before) w.self-is
]
