use Rattle.cdb_show.proofs.Words.{distance_lines, err_from_is_err_and, keys_line, prefix_in, records_line, refl, sizes_line, tables_line, values_line, writes_prefix}
use Rattle.cdb_show.proofs.StatsTexts.{amid_prefix, amid_last, behind_records, behind_keys, behind_values, behind_tables, first_line, after_records, after_keys, after_values, after_tables, after_sizes}
use Rattle.cdb_show.proofs.runs.stats_text.write_stats.Goals as goal

pub returns-in_err-write_count-clause-writes : goal.returns-in_err-write_count-clause-writes
returns-in_err-write_count-clause-writes g c =
    let s = c.args.stats.now in
    writes_prefix _ _ _ _ _ (err_from_is_err_and c.from_residual.result c.from_residual.ensures.1).1 (prefix_in _ _ (records_line s) (behind_records s) _ c.in_err-write_count.ensures.writes.err (first_line s))

pub returns-in_err-write_triple-clause-writes : goal.returns-in_err-write_triple-clause-writes
returns-in_err-write_triple-clause-writes g c =
    let s = c.args.stats.now in
    let one = after_records _ _ s c.in_ok-write_count.ensures.writes.ok in
    writes_prefix _ _ _ _ _ (err_from_is_err_and c.from_residual-in_err-write_triple.result c.from_residual-in_err-write_triple.ensures.1).1 (amid_prefix _ _ _ _ _ (keys_line s) (behind_keys s) one refl c.in_err-write_triple.ensures.writes.err)

pub returns-in_err-write_triple-2-clause-writes : goal.returns-in_err-write_triple-2-clause-writes
returns-in_err-write_triple-2-clause-writes g c =
    let s = c.args.stats.now in
    let one = after_records _ _ s c.in_ok-write_count.ensures.writes.ok in
    let two = after_keys _ _ _ s one c.in_ok-write_triple.ensures.writes.ok in
    writes_prefix _ _ _ _ _ (err_from_is_err_and c.from_residual-in_err-write_triple-2.result c.from_residual-in_err-write_triple-2.ensures.1).1 (amid_prefix _ _ _ _ _ (values_line s) (behind_values s) two refl c.in_err-write_triple-2.ensures.writes.err)

pub returns-in_err-write_triple-3-clause-writes : goal.returns-in_err-write_triple-3-clause-writes
returns-in_err-write_triple-3-clause-writes g c =
    let s = c.args.stats.now in
    let one = after_records _ _ s c.in_ok-write_count.ensures.writes.ok in
    let two = after_keys _ _ _ s one c.in_ok-write_triple.ensures.writes.ok in
    let three = after_values _ _ _ s two c.in_ok-write_triple-2.ensures.writes.ok in
    writes_prefix _ _ _ _ _ (err_from_is_err_and c.from_residual-in_err-write_triple-3.result c.from_residual-in_err-write_triple-3.ensures.1).1 (amid_prefix _ _ _ _ _ (tables_line s) (behind_tables s) three refl c.in_err-write_triple-3.ensures.writes.err)

pub returns-in_err-write_triple-4-clause-writes : goal.returns-in_err-write_triple-4-clause-writes
returns-in_err-write_triple-4-clause-writes g c =
    let s = c.args.stats.now in
    let one = after_records _ _ s c.in_ok-write_count.ensures.writes.ok in
    let two = after_keys _ _ _ s one c.in_ok-write_triple.ensures.writes.ok in
    let three = after_values _ _ _ s two c.in_ok-write_triple-2.ensures.writes.ok in
    let four = after_tables _ _ _ s three c.in_ok-write_triple-3.ensures.writes.ok in
    writes_prefix _ _ _ _ _ (err_from_is_err_and c.from_residual-in_err-write_triple-4.result c.from_residual-in_err-write_triple-4.ensures.1).1 (amid_prefix _ _ _ _ _ (sizes_line s) (distance_lines s.distances) four refl c.in_err-write_triple-4.ensures.writes.err)

pub returns-clause-writes : goal.returns-clause-writes
returns-clause-writes g c =
    let s = c.args.stats.now in
    let one = after_records _ _ s c.in_ok-write_count.ensures.writes.ok in
    let two = after_keys _ _ _ s one c.in_ok-write_triple.ensures.writes.ok in
    let three = after_values _ _ _ s two c.in_ok-write_triple-2.ensures.writes.ok in
    let four = after_tables _ _ _ s three c.in_ok-write_triple-3.ensures.writes.ok in
    let five = after_sizes _ _ _ s four c.in_ok-write_triple-4.ensures.writes.ok in
    amid_last c.write_distances.result _ _ _ _ _ five c.write_distances.ensures.writes
