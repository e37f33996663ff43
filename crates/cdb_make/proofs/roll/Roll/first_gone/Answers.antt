use Rattle.cdb_make.proofs.Words.{IsFirstMarked, arith, gone_of, is_gone, length-map, marks_in, subst}
use Rattle.cdb_make.proofs.Marking.{marks_long}
use Rattle.cdb_make.proofs.Picking.{first_among}
use Rattle.cdb_make.proofs.roll.Roll.first_gone.Goals as goal

pub returns : goal.returns
returns g c =
    let m = c.args.self.now in
    let long = length-map (marks_in m) is_gone in
    subst (IsFirstMarked (gone_of (marks_in m))) (omega (arith, long, c.len.ensures, c.min.ensures, marks_long m)) (first_among (gone_of (marks_in m)) m.gone.first (omega (arith, long, marks_long m, m.hashes.ok)) m.picked.first)
