use Rattle.std.proofs.Common.{arith}
use Rattle.cdb_form.proofs.Bytes.LaneRuns.{wide_goes_on, wide_stops}
use Rattle.cdb_form.proofs.text.lanes.wide_run.Goals as goal

pub returns-then-ends-ne0-clause-within : goal.returns-then-ends-ne0-clause-within
returns-then-ends-ne0-clause-within c = (wide_stops _ _ _ 32 _ (omega arith) c.loop-place.invariant (omega arith) c.ends-ends.ensures c.if-ends-ne0.true).within

pub returns-then-ends-ne0-clause-each : goal.returns-then-ends-ne0-clause-each
returns-then-ends-ne0-clause-each c = (wide_stops _ _ _ 32 _ (omega arith) c.loop-place.invariant (omega arith) c.ends-ends.ensures c.if-ends-ne0.true).each

pub loop-place-preserved : goal.loop-place-preserved
loop-place-preserved c = wide_goes_on _ _ _ 32 _ c.loop-place.invariant (omega arith) c.ends-ends.ensures c.if-ends-ne0.false
