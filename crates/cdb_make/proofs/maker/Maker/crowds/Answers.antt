use Rattle.cdb_make.proofs.Words.{KeyValue, List, ap, arith, length, records_at, take, take_all, whole_size, ℕ, ◌+◌, ◌≡◌}
use Rattle.std.specs.Prelude.{sum_by}
use Rattle.cdb_make.proofs.Bytes.Fitting.{sum_take}
use Rattle.cdb_make.proofs.maker.Maker.crowds.Goals as goal

pub returns-then-self-gt0-clause-crowded : goal.returns-then-self-gt0-clause-crowded
returns-then-self-gt0-clause-crowded g c = λ passes.
    let w : ℕ = g.L.Width.WORD in
    let all : List KeyValue = records_at w c.args.bytes.now in
    let e = c.measure.ensures in
    let le = sum_take (whole_size w) all (c.measure.result.count + 1) (length all) (omega (arith, e.more passes)) in
    let whole : sum_by (whole_size w) (take (length all) all) ≡ sum_by (whole_size w) all = ap (sum_by (whole_size w)) (take_all (length all) all (omega arith)) in
    (omega (arith, c.if-self-gt0.true), omega (arith, e.passes passes, c.full_size.ensures.is, c.full_size.ensures.within, le, whole))
