use Rattle.std.proofs.Common.{arith}
use Rattle.cdb_make.proofs.Picking.{both_few}
use Rattle.cdb_make.proofs.roll.Roll.kept_count.Goals as goal

pub overflow_sub-result : goal.overflow_sub-result
overflow_sub-result g c = omega (arith, both_few c.args.self.now, c.len.ensures)

pub overflow_sub-result-2 : goal.overflow_sub-result-2
overflow_sub-result-2 g c = omega (arith, both_few c.args.self.now, c.len.ensures)

pub returns : goal.returns
returns g c = omega (arith, both_few c.args.self.now, c.len.ensures)
