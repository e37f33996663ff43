use Rattle.cdb_form.proofs.Words.{[], ap, arith, drop, fold, hash_step, length, sym, ℕ, ◌*◌, ◌/◌, ◌∙◌, ◌≡◌}
use Rattle.std.proofs.Math.ListN.{drop_of_length-le}
use Rattle.cdb_form.proofs.Bytes.HashLemmas.{fold_all}
use Rattle.cdb_form.proofs.key_hash.hash_more.Goals as goal

pub returns : goal.returns
returns c =
    let bytes = c.args.bytes.now in
    let k = length bytes / 8 in
    let eights = c.as_chunks.result.0.now in
    let over : drop c.loop-eight.eight-index eights ≡ [] = drop_of_length-le eights (omega arith) in
    let so : c.loop-eight.hash ≡ fold (fold hash_step) c.args.hash eights = sym (ap (fold (fold hash_step) c.loop-eight.hash) over) ∙ c.loop-eight.invariant in
    c.hash_each.ensures
    ∙ ap (λ t. fold hash_step c.loop-eight.hash t) c.as_chunks.ensures.back
    ∙ ap (λ (h : ℕ). fold hash_step h (drop (k * 8) bytes)) (so ∙ ap (fold (fold hash_step) c.args.hash) c.as_chunks.ensures.front)
    ∙ fold_all hash_step 8 k c.args.hash bytes
