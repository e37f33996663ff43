use Rattle.std.proofs.Common.{arith}
use Rattle.cdb_make.proofs.Rolls.{follows_then}
use Rattle.cdb_make.proofs.Removing.{removes_none, removes_some, remove_fails}
use Rattle.cdb_make.proofs.maker.Maker.remove.Goals as goal

pub returns-then-taken-eq0-clause-removes : goal.returns-then-taken-eq0-clause-removes
returns-then-taken-eq0-clause-removes g c = removes_none c.args.self.now c.seek.new.self c.sought_by_look-sought.result c.in_ok-taken.taken c.args.key.now c.if-taken-eq0.true c.in_ok-taken.ensures.seeks

pub returns-in_err-take_out-clause-fails : goal.returns-in_err-take_out-clause-fails
returns-in_err-take_out-clause-fails g c =
    remove_fails c.args.self.now c.seek.new.self c.take_out.new.self c.sought_by_look-sought.result c.in_ok-taken.taken c.args.key.now c.from_residual-in_err-take_out.result c.in_err-take_out.field-0.0 (omega (arith, c.if-taken-eq0.false)) c.in_ok-taken.ensures.seeks c.take_out.ensures.follows c.in_err-take_out.ensures.fails
    c.from_residual-in_err-take_out.ensures.1

pub returns-clause-removes : goal.returns-clause-removes
returns-clause-removes g c = removes_some c.args.self.now c.seek.new.self c.take_out.new.self c.sought_by_look-sought.result c.in_ok-taken.taken c.args.key.now c.in_ok-taken.ensures.seeks c.in_ok-take_out.ensures.takes

pub returns-in_err-take_out-clause-follows : goal.returns-in_err-take_out-clause-follows
returns-in_err-take_out-clause-follows g c = follows_then c.args.self.now c.seek.new.self c.take_out.new.self c.seek.ensures.follows c.take_out.ensures.follows

pub returns-clause-follows : goal.returns-clause-follows
returns-clause-follows g c = follows_then c.args.self.now c.seek.new.self c.take_out.new.self c.seek.ensures.follows c.take_out.ensures.follows

pub take_out-requires-clause-some : goal.take_out-requires-clause-some
take_out-requires-clause-some g c = omega (arith, c.if-taken-eq0.false, c.in_ok-taken.ensures.seeks.count)
