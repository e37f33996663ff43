use Rattle.cdb_form.proofs.Words.{arith, common_steps}
use Rattle.cdb_form.proofs.Sources.SourceLemmas.{bytes_fail}
use Rattle.cdb_form.proofs.text.source.Source.bytes.Goals as goal

pub returns-in-Err-clause-fails : goal.returns-in-Err-clause-fails
returns-in-Err-clause-fails g c =
    let e = c.in-Err.ensures in
    rw c.of_reader.ensures (bytes_fail _ _ c.args.len _ _ c.vector-answer.new.into.items c.in-Err.unread e.part e.ended e.are e.short (omega (arith, c.len.ensures, c.vector-answer.new.into.ok.0)))

pub returns-in-Err-clause-leaves : goal.returns-in-Err-clause-leaves
returns-in-Err-clause-leaves g c = grind (arith, common_steps)
