use Rattle.cdb_read.proofs.Words.{arith, eq-eqb, ne_eqb, not_from_false, not_from_true, slot_pair, sym}
use Rattle.cdb_read.proofs.FilledTables.RunEnds.{run_of-used, run_of-unused}
use Rattle.cdb_read.proofs.checking.slot_runs.run_with.Goals as goal

pub returns-then-slot-eq0-clause-run : goal.returns-then-slot-eq0-clause-run
returns-then-slot-eq0-clause-run c slots is =
    sym (run_of-unused slots (slot_pair c.args.slot) (not_from_true _ (eq-eqb c.args.slot.place 0 c.if-slot-eq0.true)))

pub returns-else-slot-eq0-clause-run : goal.returns-else-slot-eq0-clause-run
returns-else-slot-eq0-clause-run c slots is =
    let used = run_of-used slots (slot_pair c.args.slot) (not_from_false _ (ne_eqb c.args.slot.place 0 c.if-slot-eq0.false)) in
    omega arith
