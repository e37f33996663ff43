use Rattle.std.proofs.Common.{ap, map, refl, string_bytes}
use Rattle.cdb_show.proofs.Words.{err_from_is_err_and, prefix_in, same_writes, writes_last, writes_prefix}
use Rattle.cdb_show.specs.Message.{duplicate_line, input_at, key_line}
use Rattle.cdb_show.proofs.key_line.write_duplicates.Goals as goal

pub returns-in_err-write_duplicate-in-Some-clause-writes : goal.returns-in_err-write_duplicate-in-Some-clause-writes
returns-in_err-write_duplicate-in-Some-clause-writes g c =
    let p = err_from_is_err_and c.from_residual.result c.from_residual.ensures.1 in
    rw c.in-Some.is (writes_prefix _ _ _ _ _ p.1 (prefix_in _ _ (duplicate_line c.args.input c.args.number) (key_line (input_at (map string_bytes c.in-Some.names.now) c.args.input) c.args.line c.args.key.now) _ c.in_err-write_duplicate-in-Some.ensures.writes.err refl))

pub returns-in_ok-write_duplicate-in-Some-clause-writes : goal.returns-in_ok-write_duplicate-in-Some-clause-writes
returns-in_ok-write_duplicate-in-Some-clause-writes g c =
    let named = same_writes c.write_key.result _ _ _ _ (ap (λ name. key_line name c.args.line c.args.key.now) c.input_at.ensures) c.write_key.ensures.writes in
    rw c.in-Some.is (writes_last c.write_key.result _ _ _ (duplicate_line c.args.input c.args.number) _ _ c.in_ok-write_duplicate-in-Some.ensures.writes.ok named refl)
