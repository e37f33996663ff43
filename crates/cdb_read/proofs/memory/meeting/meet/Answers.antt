use Rattle.std.proofs.Common.{◌≡◌, arith}
use Rattle.cdb_read.proofs.Probing.Searches.{meets_none}
use Rattle.cdb_read.proofs.MemoryBytes.{meets_empty, meets_value, meets_broken, same_next, next_inside, next_fewer}
use Rattle.cdb_read.proofs.memory.meeting.meet.Goals as goal

pub returns-clause-meets : goal.returns-clause-meets
returns-clause-meets g c = λ is. let none : c.loop-probe.probe.left ≡ 0 = omega arith in meets_none none (c.loop-probe.invariant.same is)

pub returns-in-Empty-clause-meets : goal.returns-in-Empty-clause-meets
returns-in-Empty-clause-meets g c = λ is. meets_empty (c.loop-probe.invariant.same is) (c.in-Empty.ensures.steps is)

pub returns-in-Broken-clause-meets : goal.returns-in-Broken-clause-meets
returns-in-Broken-clause-meets g c = λ is. meets_broken c.in-Broken.place (c.loop-probe.invariant.same is) (c.in-Broken.ensures.steps is)

pub returns-in-Value-clause-meets : goal.returns-in-Value-clause-meets
returns-in-Value-clause-meets g c = λ is. meets_value c.in-Value.span c.next.ensures (c.loop-probe.invariant.same is) (c.in-Value.ensures.steps is)

pub loop-probe-preserved : goal.loop-probe-preserved
loop-probe-preserved g c = record {
  inside = next_inside c.next-probe.ensures c.loop-probe.invariant.inside;
  fewer = next_fewer _ _ c.next-probe.ensures c.loop-probe.invariant.fewer;
  same = λ is. same_next c.next-probe.ensures (c.loop-probe.invariant.same is) (c.in-Passed.ensures.steps is);
}
