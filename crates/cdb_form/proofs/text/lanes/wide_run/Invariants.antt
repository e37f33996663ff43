use Rattle.std.proofs.Common.{length, ◌-◌}
use Rattle.cdb_form.proofs.Bytes.LaneRuns.{WideRun}
use Rattle.cdb_form.proofs.text.lanes.wide_run.Given as goal

-- the bytes so far are of the kind
abbrev pub invariant-loop-place : goal.invariant-loop-place
invariant-loop-place l = WideRun l.kind l.bytes l.place

abbrev pub decreases-loop-place : goal.decreases-loop-place
decreases-loop-place l = length l.bytes - l.place
