use Rattle.cdb_show.proofs.Words.{List, append_assoc, appends_then, codes, err_from_is_err_and, prefix_in, prefix_last, prefix_then, refl, same_appends, sym, writes_prefix, ℕ, ◌++◌, ◌∙◌, ◌≡◌}
use Rattle.cdb_read.specs.Lookup.{bytes_of}
use Rattle.cdb_show.specs.Runs.Query.{record_text}
use Rattle.cdb_command.specs.declared.style.Style.TheVariants.{Map}
use Rattle.cdb_show.proofs.runs.query.write_map_put.Goals as goal

map_is : (key value : List ℕ) → record_text Map key value ≡ ((key ++ codes " ") ++ value) ++ codes "\n"
map_is key value = simp append_assoc refl

pub returns-in_err-write_map_head-clause-writes : goal.returns-in_err-write_map_head-clause-writes
returns-in_err-write_map_head-clause-writes g c = λ b is.
    let p = err_from_is_err_and c.from_residual.result c.from_residual.ensures.1 in
    let key = c.args.key.now in
    let value = c.args.value in
    writes_prefix _ _ _ _ _ p.1 (prefix_in _ _ (key ++ codes " ") (bytes_of b value ++ codes "\n") _ c.in_err-write_map_head.ensures.writes.err
    (map_is key (bytes_of b value) ∙ append_assoc (key ++ codes " ") (bytes_of b value) (codes "\n")))

pub returns-in_err-copy-clause-writes : goal.returns-in_err-copy-clause-writes
returns-in_err-copy-clause-writes g c = λ b is.
    let p = err_from_is_err_and c.from_residual-in_err-copy.result c.from_residual-in_err-copy.ensures.1 in
    let key = c.args.key.now in
    let value = c.args.value in
    writes_prefix _ _ _ _ _ p.1 (prefix_then _ _ _ (key ++ codes " ") (bytes_of b value) (codes "\n") _ c.in_ok-write_map_head.ensures.writes.ok (c.in_err-copy.ensures.copies b is).err
    (map_is key (bytes_of b value) ∙ append_assoc (key ++ codes " ") (bytes_of b value) (codes "\n")))

pub returns-in_err-write_whole-clause-writes : goal.returns-in_err-write_whole-clause-writes
returns-in_err-write_whole-clause-writes g c = λ b is.
    let p = err_from_is_err_and c.from_residual-in_err-write_whole.result c.from_residual-in_err-write_whole.ensures.1 in
    let key = c.args.key.now in
    let value = c.args.value in
    writes_prefix _ _ _ _ _ p.1 (prefix_last _ _ _ (key ++ codes " " ++ bytes_of b value) (codes "\n") _
    (appends_then _ _ _ (key ++ codes " ") (bytes_of b value) c.in_ok-write_map_head.ensures.writes.ok (c.in_ok-copy.ensures.copies b is).ok) c.in_err-write_whole.ensures.writes.err
    (map_is key (bytes_of b value)))

pub returns-clause-writes : goal.returns-clause-writes
returns-clause-writes g c = λ b is.
    let key = c.args.key.now in
    let value = c.args.value in
    record {
      ok = same_appends _ _ _ _ (sym (map_is key (bytes_of b value)))
          (appends_then _ _ _ (key ++ codes " " ++ bytes_of b value) (codes "\n")
          (appends_then _ _ _ (key ++ codes " ") (bytes_of b value) c.in_ok-write_map_head.ensures.writes.ok (c.in_ok-copy.ensures.copies b is).ok) c.in_ok-write_whole.ensures.writes.ok);
      err = tt;
    }
