use Rattle.std.proofs.Common.{List, [], refl, ℕ}
use Rattle.std.specs.Borrow.{Bor}
use Rattle.cdb_show.specs.declared.fault.Fault.TheVariants.{NoMemory}
use Rattle.cdb_tool.proofs.FedEnds.{each_own, read_flushed, read_none}
use Rattle.cdb_tool.proofs.RunEnds.{runs_unbegun}
use Rattle.cdb_tool.proofs.runs.make.make_run.Goals as goal

pub returns-in_default-clause-runs : goal.returns-in_default-clause-runs
returns-in_default-clause-runs g c =
    let none : Bor (List ℕ) = record { ref_ptr = (0, 0); now = [] } in
    let inputs = each_own c.args.inputs none in (
      inputs,
      inputs,
      refl,
      read_flushed g.B.Store _ _ _ _ _ _ _ inputs inputs _ _ _ _ _ _ (read_none g.B.Store c.args.base c.args.base _ _ _ _ _ inputs _ _ _ NoMemory tt (runs_unbegun g.B.Store c.args.base _ _ _ _ _)) c.flushed-answer.ensures.flushes,
    )

pub returns-clause-runs : goal.returns-clause-runs
returns-clause-runs g c = (c.in-Ok.inputs, c.make_run_from-store.result.2, c.in-Ok.ensures.each, c.make_run_from-store.ensures.runs)
