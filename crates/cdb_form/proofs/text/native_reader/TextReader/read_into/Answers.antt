use Rattle.cdb_form.proofs.Words.{err_from_is_err_and, refl}
use Rattle.cdb_form.proofs.NativeTexts.FormReads.{puts_found}
use Rattle.cdb_form.proofs.text.native_reader.TextReader.read_into.Goals as goal

pub returns-clause-gives : goal.returns-clause-gives
returns-clause-gives g c =
    let e = c.in_ok-found.ensures in
    rw c.is_some.ensures (puts_found g.L.Width.GREATEST g.R.Feeds.feed _ _ c.read_into.new.into c.in_ok-found.found (e.puts refl) e.gives)

pub returns-in_err-found-clause-fails : goal.returns-in_err-found-clause-fails
returns-in_err-found-clause-fails g c =
    let p = err_from_is_err_and c.from_residual.result c.from_residual.ensures.1 in
    rw (p.1, p.2) c.in_err-found.ensures.fails
