use Rattle.cdb_tool.proofs.Words.{err_from_is_err_and, ◌∙◌}
use Rattle.cdb_form.proofs.Bytes.WritingLemmas.{same_prefix, same_appends}
use Rattle.cdb_tool.proofs.WholeRuns.{nothing_made, file_made, file_fails}
use Rattle.cdb_tool.proofs.runs.make_bytes.make_bytes_unflushed.Goals as goal

pub returns-in_err-maker-clause-makes : goal.returns-in_err-maker-clause-makes
returns-in_err-maker-clause-makes g c =
    let p = err_from_is_err_and c.from_residual.result c.from_residual.ensures.1 in
    rw (p.1, p.2) (nothing_made _ _ _ _ _ _ c.in_err-maker.ensures.err)

pub returns-in_err-file-clause-makes : goal.returns-in_err-file-clause-makes
returns-in_err-file-clause-makes g c =
    let p = err_from_is_err_and c.from_residual-in_err-file.result c.from_residual-in_err-file.ensures.1 in
    let read = c.in_ok-maker.ensures.ok in
    rw (p.1, p.2, c.in_err-file.ensures.err read.0 read.1) (nothing_made _ _ _ _ _ _ tt)

pub returns-in_err-write_whole-clause-makes : goal.returns-in_err-write_whole-clause-makes
returns-in_err-write_whole-clause-makes g c =
    let p = err_from_is_err_and c.from_residual-in_err-write_whole.result c.from_residual-in_err-write_whole.ensures.1 in
    let read = c.in_ok-maker.ensures.ok in
    let bytes = c.deref.ensures.value ∙ c.in_ok-file.ensures.ok read.0 read.1 in
    rw (p.1, p.2) (file_fails _ _ _ _ _ _ read.0 read.2 (same_prefix _ _ _ _ bytes c.in_err-write_whole.ensures.writes.err))

pub returns-clause-makes : goal.returns-clause-makes
returns-clause-makes g c =
    let read = c.in_ok-maker.ensures.ok in
    let bytes = c.deref.ensures.value ∙ c.in_ok-file.ensures.ok read.0 read.1 in
    file_made _ _ _ _ _ _ read.0 read.2 (same_appends _ _ _ _ bytes c.in_ok-write_whole.ensures.writes.ok)

pub returns-in_err-file-clause-output : goal.returns-in_err-file-clause-output
returns-in_err-file-clause-output g c =
    let p = err_from_is_err_and c.from_residual-in_err-file.result c.from_residual-in_err-file.ensures.1 in
    let read = c.in_ok-maker.ensures.ok in
    rw (p.1, p.2, c.in_err-file.ensures.err read.0 read.1) tt
