use Rattle.std.proofs.Common.{arith, take}
use Rattle.cdb_form.proofs.Bytes.NumeralLemmas.{last_digit}
use Rattle.cdb_form.proofs.text.line.put_number.Goals as goal

pub returns-clause-bytes : goal.returns-clause-bytes
returns-clause-bytes c = last_digit c.args.n _ _ (take c.args.place c.args.line.now) (omega (arith, c.if-n-lt100.false)) c.ranges.n.fits c.put_digit.ensures.bytes c.put_tens-tens.ensures.bytes
