use Rattle.cdb_read.proofs.DifferenceWords.{append_assoc, appends_then, bytes_of, codes, err_from_is_err_and, length_of, prefix_in, prefix_last, prefix_then, same_appends, subst, sym, writes_prefix, ℕ, ◌++◌, ◌+◌, ◌∙◌, ◌≤◌}
use Rattle.cdb_read.proofs.PutValues.{put_head, put_is}
use Rattle.cdb_read.proofs.difference.key_changes.write_put.Goals as goal

pub returns-in_err-write_put_head-clause-writes : goal.returns-in_err-write_put_head-clause-writes
returns-in_err-write_put_head-clause-writes g c = λ b is.
    let p = err_from_is_err_and c.from_residual.result c.from_residual.ensures.1 in
    let key = c.args.key.now in
    let value = c.args.value in
    let long = length_of b value (subst (λ (n : ℕ). value.place + value.len ≤ n) (sym (g.met.S.Store.image_size c.args.finder.now.reader.now.store b is)) c.requires.inside) in
    writes_prefix _ _ _ _ _ p.1 (prefix_in _ _ (put_head key value.len) (bytes_of b value ++ codes "\n") _ c.in_err-write_put_head.ensures.writes.err
    (put_is key (bytes_of b value) value.len long ∙ append_assoc (put_head key value.len) (bytes_of b value) (codes "\n")))

pub returns-in_err-copy-clause-writes : goal.returns-in_err-copy-clause-writes
returns-in_err-copy-clause-writes g c = λ b is.
    let p = err_from_is_err_and c.from_residual-in_err-copy.result c.from_residual-in_err-copy.ensures.1 in
    let key = c.args.key.now in
    let value = c.args.value in
    let long = length_of b value (subst (λ (n : ℕ). value.place + value.len ≤ n) (sym (g.met.S.Store.image_size c.args.finder.now.reader.now.store b (c.copy.ensures.reads.images b is))) c.requires.inside) in
    writes_prefix _ _ _ _ _ p.1 (prefix_then _ _ _ (put_head key value.len) (bytes_of b value) (codes "\n") _ c.in_ok-write_put_head.ensures.writes.ok (c.in_err-copy.ensures.copies b is).err
    (put_is key (bytes_of b value) value.len long ∙ append_assoc (put_head key value.len) (bytes_of b value) (codes "\n")))

pub returns-in_err-write_whole-clause-writes : goal.returns-in_err-write_whole-clause-writes
returns-in_err-write_whole-clause-writes g c = λ b is.
    let p = err_from_is_err_and c.from_residual-in_err-write_whole.result c.from_residual-in_err-write_whole.ensures.1 in
    let key = c.args.key.now in
    let value = c.args.value in
    let long = length_of b value (subst (λ (n : ℕ). value.place + value.len ≤ n) (sym (g.met.S.Store.image_size c.args.finder.now.reader.now.store b (c.copy.ensures.reads.images b is))) c.requires.inside) in
    writes_prefix _ _ _ _ _ p.1 (prefix_last _ _ _ (put_head key value.len ++ bytes_of b value) (codes "\n") _
    (appends_then _ _ _ (put_head key value.len) (bytes_of b value) c.in_ok-write_put_head.ensures.writes.ok (c.in_ok-copy.ensures.copies b is).ok) c.in_err-write_whole.ensures.writes.err
    (put_is key (bytes_of b value) value.len long))

pub returns-clause-writes : goal.returns-clause-writes
returns-clause-writes g c = λ b is.
    let key = c.args.key.now in
    let value = c.args.value in
    let long = length_of b value (subst (λ (n : ℕ). value.place + value.len ≤ n) (sym (g.met.S.Store.image_size c.args.finder.now.reader.now.store b (c.copy.ensures.reads.images b is))) c.requires.inside) in
    record {
      ok = same_appends _ _ _ _ (sym (put_is key (bytes_of b value) value.len long))
          (appends_then _ _ _ (put_head key value.len ++ bytes_of b value) (codes "\n")
          (appends_then _ _ _ (put_head key value.len) (bytes_of b value) c.in_ok-write_put_head.ensures.writes.ok (c.in_ok-copy.ensures.copies b is).ok) c.in_ok-write_whole.ensures.writes.ok);
      err = tt;
    }
