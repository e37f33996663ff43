use Rattle.cdb_make.proofs.Words.{marks_in, ap, arith, gone_in, is_gone, length, length-map, ◌≡◌}
use Rattle.cdb_make.proofs.Looking.{sees_long}
use Rattle.cdb_make.proofs.Picking.{left_number}
use Rattle.cdb_make.proofs.Marking.{marks_long}
use Rattle.cdb_make.proofs.maker.Maker.count.Goals as goal

pub returns-else-self-clause-holds : goal.returns-else-self-clause-holds
returns-else-self-clause-holds g c = λ rs h. record {
  each = λ b is.
      let m = c.args.self.now.roll in
      let held = h.each b is in
      let long = sees_long m held.all b held.sees in
      let many : length (gone_in c.args.self.now) ≡ length held.all = omega (arith, long, length-map (marks_in m) is_gone, (marks_long m)) in
      omega (arith, c.left_count.ensures, m.picked.count, left_number (gone_in c.args.self.now) held.all many, long, ap length held.left);
}
