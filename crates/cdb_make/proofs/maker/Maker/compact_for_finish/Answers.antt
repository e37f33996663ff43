use Rattle.std.proofs.Common.{refl}
use Rattle.cdb_make.proofs.Finishing.{compacts_all_then}
use Rattle.cdb_make.proofs.maker.Maker.compact_for_finish.Goals as goal

pub returns-clause-compacts_all : goal.returns-clause-compacts_all
returns-clause-compacts_all g c =
    let e = c.unchain.ensures in
    compacts_all_then c.args.self.now c.compact_all.new.self _ c.in_ok-compact_all.ensures.compacts_all refl refl e.same e.marks e.gone
