use Rattle.cdb_system.proofs.Words.{err_from_is_err_and, fault_line, refl}
use Rattle.cdb_form.proofs.Bytes.WritingLemmas.{prefix_in, writes_last, writes_prefix}
use Rattle.cdb_system.specs.Causes.{more_of}
use Rattle.cdb_system.proofs.telling.write_told.Goals as goal

pub returns-in_err-write_fault-clause-writes : goal.returns-in_err-write_fault-clause-writes
returns-in_err-write_fault-clause-writes g c =
    let p = err_from_is_err_and c.from_residual.result c.from_residual.ensures.1 in
    writes_prefix _ _ _ _ _ p.1 (prefix_in _ _ (fault_line c.args.fault.now) (more_of c.args.reason.now) _ c.in_err-write_fault.ensures.writes.err refl)

pub returns-clause-writes : goal.returns-clause-writes
returns-clause-writes g c =
    writes_last c.write_more.result _ _ _ (fault_line c.args.fault.now) (more_of c.args.reason.now) _ c.in_ok-write_fault.ensures.writes.ok c.write_more.ensures.writes refl
