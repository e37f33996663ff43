use Rattle.cdb_show.proofs.Words.{appends_then, codes, err_from_is_err_and, prefix_in, prefix_last, refl, same_appends, sym, writes_prefix}
use Rattle.cdb_read.specs.Lookup.{bytes_of}
use Rattle.cdb_show.proofs.Queries.{in_lines}
use Rattle.cdb_show.proofs.runs.query.write_value.Goals as goal

pub returns-in_err-copy-clause-writes : goal.returns-in_err-copy-clause-writes
returns-in_err-copy-clause-writes g c = λ b is.
    let p = err_from_is_err_and c.from_residual.result c.from_residual.ensures.1 in
    let copied = c.in_err-copy.ensures.copies b is in
    writes_prefix _ _ _ _ _ p.1 (prefix_in _ _ (bytes_of b c.args.value) _ _ copied.err refl)

pub returns-in_err-write_whole-clause-writes : goal.returns-in_err-write_whole-clause-writes
returns-in_err-write_whole-clause-writes g c = λ b is.
    let p = err_from_is_err_and c.from_residual-in_err-write_whole.result c.from_residual-in_err-write_whole.ensures.1 in
    let copied = c.in_ok-copy.ensures.copies b is in
    writes_prefix _ _ _ _ _ p.1 (prefix_last _ _ _ (bytes_of b c.args.value) (codes "\n") _ copied.ok c.in_err-write_whole.ensures.writes.err (in_lines c.args.lines (bytes_of b c.args.value) c.if-lines.true))

pub returns-in_ok-write_whole-clause-writes : goal.returns-in_ok-write_whole-clause-writes
returns-in_ok-write_whole-clause-writes g c = λ b is.
    let copied = c.in_ok-copy.ensures.copies b is in
    record { ok = same_appends _ _ _ _ (sym (in_lines c.args.lines (bytes_of b c.args.value) c.if-lines.true)) (appends_then _ _ _ (bytes_of b c.args.value) (codes "\n") copied.ok c.in_ok-write_whole.ensures.writes.ok); err = tt }
