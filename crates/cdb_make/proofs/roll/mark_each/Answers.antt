use Rattle.cdb_make.proofs.Words.{arith, sym, ◌∙◌}
use Rattle.cdb_make.proofs.Marking.{all_full, all_step}
use Rattle.cdb_make.proofs.roll.mark_each.Goals as goal

pub loop-marks-preserved : goal.loop-marks-preserved
loop-marks-preserved c = record {
  all = all_step c.args.count c.loop-marks.marks.items c.push_reserved.new.self.items c.push_reserved.ensures.items (omega (arith, c.loop-marks-test.true, c.len.ensures)) ∙ c.loop-marks.invariant.all;
  few = omega (arith);
  room = omega (arith);
}

pub returns-clause-all : goal.returns-clause-all
returns-clause-all c = sym (all_full c.args.count c.loop-marks.marks.items (omega (arith, c.loop-marks.invariant.few))) ∙ c.loop-marks.invariant.all
