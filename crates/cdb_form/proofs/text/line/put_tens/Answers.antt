use Rattle.std.proofs.Common.{◌/◌, arith, take}
use Rattle.cdb_form.proofs.Bytes.NumeralLemmas.{last_digit, one_digit}
use Rattle.cdb_form.proofs.text.line.put_tens.Goals as goal

pub returns-then-n-lt10-clause-bytes : goal.returns-then-n-lt10-clause-bytes
returns-then-n-lt10-clause-bytes c = one_digit c.args.n _ (take c.args.place c.args.line.now) c.if-n-lt10.true c.put_digit.ensures.bytes

pub returns-clause-bytes : goal.returns-clause-bytes
returns-clause-bytes c =
    let front = take c.args.place c.args.line.now in
    last_digit c.args.n _ _ front (omega (arith, c.if-n-lt10.false)) c.ranges.n.fits c.put_digit-2.ensures.bytes
    (one_digit (c.args.n / 10) _ front (omega (arith, c.requires.low)) c.put_digit-tens.ensures.bytes)
