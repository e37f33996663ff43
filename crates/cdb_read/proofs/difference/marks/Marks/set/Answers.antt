use Rattle.cdb_read.proofs.DifferenceWords.{Grows, KeepsOthers, ap, mark_at, subst, sym, ◌∙◌}
use Rattle.cdb_read.proofs.MarkBits.{mark_grown, mark_kept, mark_set, with_word}
use Rattle.cdb_read.proofs.difference.marks.Marks.set.Goals as goal

pub returns-clause-set : goal.returns-clause-set
returns-clause-set c =
    let words = c.args.self.now.words.items in
    let long = c.args.self.now.long in
    ap (λ ws. mark_at ws c.args.hash) (with_word words c.args.hash c.index_mut.result.now long c.index_mut.ensures.value) ∙ mark_set words c.args.hash long

pub returns-clause-grows : goal.returns-clause-grows
returns-clause-grows c =
    let words = c.args.self.now.words.items in
    let long = c.args.self.now.long in
    subst (λ ws. Grows words ws) (sym (with_word words c.args.hash c.index_mut.result.now long c.index_mut.ensures.value)) (mark_grown words c.args.hash long)

pub returns-clause-keeps : goal.returns-clause-keeps
returns-clause-keeps c =
    let words = c.args.self.now.words.items in
    let long = c.args.self.now.long in
    subst (λ ws. KeepsOthers c.args.hash words ws) (sym (with_word words c.args.hash c.index_mut.result.now long c.index_mut.ensures.value)) (mark_kept words c.args.hash long)
