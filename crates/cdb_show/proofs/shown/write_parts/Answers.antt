use Rattle.cdb_show.proofs.Words.{arith, err_from_is_err_and, shown, ◌++◌}
use Rattle.cdb_form.proofs.Bytes.WritingLemmas.{prefix_then, flat_map_at, writes_prefix}
use Rattle.cdb_show.proofs.shown.write_parts.Goals as goal

pub returns-in_err-write_part-clause-writes : goal.returns-in_err-write_part-clause-writes
returns-in_err-write_part-clause-writes g c =
    let p = err_from_is_err_and c.from_residual.result c.from_residual.ensures.1 in
    writes_prefix _ _ _ _ _ p.1 (prefix_then _ _ _ _ _ _ _ c.loop-text.invariant.written c.in_err-write_part.ensures.writes.err (flat_map_at (λ p. p.0.now ++ shown p.1.now) c.args.parts.now c.loop-text.text-index _ (omega arith)))
