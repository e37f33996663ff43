use Rattle.cdb_show.proofs.Words.{err_from_is_err_and, prefix_in, refl, shown, writes_last, writes_prefix}
use Rattle.cdb_show.proofs.shown.write_part.Goals as goal

pub returns-in_err-write_whole-clause-writes : goal.returns-in_err-write_whole-clause-writes
returns-in_err-write_whole-clause-writes g c =
    let p = err_from_is_err_and c.from_residual.result c.from_residual.ensures.1 in
    writes_prefix _ _ _ _ _ p.1 (prefix_in _ _ c.args.text.now (shown c.args.bytes.now) _ c.in_err-write_whole.ensures.writes.err refl)

pub returns-clause-writes : goal.returns-clause-writes
returns-clause-writes g c =
    writes_last c.write_shown.result _ _ _ c.args.text.now _ _ c.in_ok-write_whole.ensures.writes.ok c.write_shown.ensures.writes refl
