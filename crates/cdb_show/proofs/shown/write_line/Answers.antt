use Rattle.cdb_show.proofs.Words.{append_assoc, appends_then, codes, err_from_is_err_and, flat_map, prefix_in, prefix_then, sym, writes_last, writes_prefix, ◌++◌, ◌∙◌}
use Rattle.cdb_show.proofs.ShownParts.{line_of, shown_part}
use Rattle.cdb_show.proofs.shown.write_line.Goals as goal

pub returns-in_err-write_whole-clause-writes : goal.returns-in_err-write_whole-clause-writes
returns-in_err-write_whole-clause-writes g c =
    let p = err_from_is_err_and c.from_residual.result c.from_residual.ensures.1 in
    writes_prefix _ _ _ _ _ p.1 (prefix_in _ _ (codes "cdb: ") _ _ c.in_err-write_whole.ensures.writes.err (line_of c.args.parts.now))

pub returns-in_err-write_parts-clause-writes : goal.returns-in_err-write_parts-clause-writes
returns-in_err-write_parts-clause-writes g c =
    let p = err_from_is_err_and c.from_residual-in_err-write_parts.result c.from_residual-in_err-write_parts.ensures.1 in
    writes_prefix _ _ _ _ _ p.1 (prefix_then _ _ _ (codes "cdb: ") _ (codes "\n") _ c.in_ok-write_whole.ensures.writes.ok c.in_err-write_parts.ensures.writes.err (line_of c.args.parts.now))

pub returns-clause-writes : goal.returns-clause-writes
returns-clause-writes g c =
    let said = flat_map shown_part c.args.parts.now in
    let before = appends_then _ _ _ (codes "cdb: ") said c.in_ok-write_whole.ensures.writes.ok c.in_ok-write_parts.ensures.writes.ok in
    writes_last c.write_whole-2.result _ _ _ (codes "cdb: " ++ said) (codes "\n") _ before c.write_whole-2.ensures.writes
    (line_of c.args.parts.now ∙ sym (append_assoc (codes "cdb: ") said (codes "\n")))
