use Rattle.std.proofs.lemmas.Result.{err_from_is_err_and}
use Rattle.cdb_files.proofs.opening.read_opened.Goals as goal

pub returns-in_err-open-in-Ok-clause-fails : goal.returns-in_err-open-in-Ok-clause-fails
returns-in_err-open-in-Ok-clause-fails g c =
    let p = err_from_is_err_and c.from_residual.result c.from_residual.ensures.1 in
    rw (p.1, p.2, c.in-Ok.is) (c.in_err-open-in-Ok.field-0.0.store, c.in_err-open-in-Ok.ensures.fails)
