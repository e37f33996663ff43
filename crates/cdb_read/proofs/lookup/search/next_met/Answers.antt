use Rattle.cdb_read.proofs.Words.{arith, common_steps, rules, ◌≡◌}
use Rattle.cdb_read.proofs.Probing.Searches.{meets_none}
use Rattle.cdb_read.proofs.lookup.search.next_met.Goals as goal

pub returns-clause-meets : goal.returns-clause-meets
returns-clause-meets g c = let none : c.loop-probe.probe.left ≡ 0 = omega arith in meets_none none c.loop-probe.invariant.same

pub returns-in-Value-clause-meets : goal.returns-in-Value-clause-meets
returns-in-Value-clause-meets g c = grind (arith, common_steps)

pub returns-in-Empty-clause-reads : goal.returns-in-Empty-clause-reads
returns-in-Empty-clause-reads g c = search rules

pub returns-in-Broken-clause-meets : goal.returns-in-Broken-clause-meets
returns-in-Broken-clause-meets g c = search rules

pub returns-in-Broken-clause-reads : goal.returns-in-Broken-clause-reads
returns-in-Broken-clause-reads g c = search rules

pub returns-in-Empty-clause-meets : goal.returns-in-Empty-clause-meets
returns-in-Empty-clause-meets g c = search rules

pub loop-probe-preserved : goal.loop-probe-preserved
loop-probe-preserved g c = grind (arith, common_steps)

pub returns-in-Value-clause-reads : goal.returns-in-Value-clause-reads
returns-in-Value-clause-reads g c = grind (arith, common_steps)
