use Rattle.cdb_make.proofs.Words.{[], ap, arith, drop, fold, length, sym, tag_step, ℕ, ◌*◌, ◌/◌, ◌∙◌, ◌≡◌}
use Rattle.std.proofs.Math.ListN.{drop_of_length-le}
use Rattle.cdb_form.proofs.Bytes.HashLemmas.{fold_all}
use Rattle.cdb_make.proofs.tags.second_hash.Goals as goal

pub returns : goal.returns
returns c =
    let key = c.args.key.now in
    let k = length key / 8 in
    let eights = c.as_chunks.result.0.now in
    let over : drop c.loop-eight.eight-index eights ≡ [] = drop_of_length-le eights (omega arith) in
    let so : c.loop-eight.tag ≡ fold (fold tag_step) 2166136261 eights = sym (ap (fold (fold tag_step) c.loop-eight.tag) over) ∙ c.loop-eight.invariant in
    c.tag_each.ensures
    ∙ ap (λ t. fold tag_step c.loop-eight.tag t) c.as_chunks.ensures.back
    ∙ ap (λ (h : ℕ). fold tag_step h (drop (k * 8) key)) (so ∙ ap (fold (fold tag_step) 2166136261) c.as_chunks.ensures.front)
    ∙ fold_all tag_step 8 k 2166136261 key
