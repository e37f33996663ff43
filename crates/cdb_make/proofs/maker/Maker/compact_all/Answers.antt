use Rattle.std.proofs.Common.{◌<◌, arith}
use Rattle.cdb_make.proofs.Bytes.Written.{on_ok_of}
use Rattle.cdb_make.proofs.Finishing.{compacts_all_by, compacts_all_none, compacted_counts, compacting_torn}
use Rattle.cdb_make.proofs.maker.Maker.compact_all.Goals as goal

pub returns-then-self-eq0-clause-compacts_all : goal.returns-then-self-eq0-clause-compacts_all
returns-then-self-eq0-clause-compacts_all g c = compacts_all_none c.args.self.now c.if-self.false c.if-self-eq0.true

pub returns-clause-compacts_all : goal.returns-clause-compacts_all
returns-clause-compacts_all g c =
    let some : 0 < c.args.self.now.roll.gone.count = omega (arith, c.if-self-eq0.false) in
    on_ok_of c.pass.result (λ compacts clear end. compacts_all_by c.args.self.now c.pass.new.self c.if-self.false some compacts clear end) c.pass.ensures.compacts c.pass.ensures.clear c.pass.ensures.end

pub returns-clause-counts : goal.returns-clause-counts
returns-clause-counts g c =
    let p = c.pass.ensures in
    compacted_counts c.args.self.now c.pass.new.self c.pass.result c.if-self.false p.compacts p.clear p.clear_size p.end p.count p.follows.limit p.counts

pub returns-clause-fails : goal.returns-clause-fails
returns-clause-fails g c =
    let p = c.pass.ensures in
    compacting_torn c.args.self.now c.pass.new.self c.pass.result c.if-self.false (omega (arith, c.if-self-eq0.false)) p.fails p.broken p.cause
