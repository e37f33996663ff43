use Rattle.std.proofs.Common.{take}
use Rattle.cdb_files.proofs.Finishing.{SoFar}
use Rattle.cdb_files.proofs.examples.steps.build.Given as goal

-- the steps so far were made, each with its answer
abbrev pub invariant-loop-step : goal.invariant-loop-step
invariant-loop-step g l = SoFar {s = g.S.Store} {l = g.L.Width} l.fn.store l.fn.limit (take l.step-index l.steps) l.faults.items l.maker
