use Rattle.cdb_form.proofs.Words.{[], arith, err_from_is_err_and, key_value, ◌∷◌, ◌≡◌, ◌≢◌}
use Rattle.cdb_form.proofs.MapTexts.MapReads.{leaves_past, line_ignored, line_last, line_of_pair, note_ignored, note_last, other_than}
use Rattle.cdb_form.proofs.text.source.Source.line.Goals as goal

pub returns-in_err-pass-in-Some-eq35-clause-leaves :
    goal.returns-in_err-pass-in-Some-eq35-clause-leaves
returns-in_err-pass-in-Some-eq35-clause-leaves g c =
    let p = err_from_is_err_and c.from_residual-in_err-pass-in-Some-eq35.result c.from_residual-in_err-pass-in-Some-eq35.ensures.1 in
    let run = rw c.in-Some-eq35.is at c.in_ok-pass.ensures.run in
    let other : c.in-Some-eq35.field-0 ≢ 10 = omega arith in
    rw (p.1, p.2) (leaves_past _ _ _ _ _ run.0 _ _ run.1 (other_than _ 10 other) c.in_err-pass-in-Some-eq35.ensures.leaves)

pub returns-in_err-newline-in-Some-clause-leaves : goal.returns-in_err-newline-in-Some-clause-leaves
returns-in_err-newline-in-Some-clause-leaves g c =
    let p = err_from_is_err_and c.from_residual-in_err-newline-in-Some.result c.from_residual-in_err-newline-in-Some.ensures.1 in
    let run = rw c.in-Some.is at c.in_ok-pass.ensures.run in
    let other : c.in-Some.first ≢ 10 = omega arith in
    rw (p.1, p.2) (leaves_past _ _ _ _ _ run.0 _ _ run.1 (other_than _ 10 other) c.in_err-newline-in-Some.ensures.leaves)

pub returns-in-None-clause-reads : goal.returns-in-None-clause-reads
returns-in-None-clause-reads g c =
    let run = rw c.in-None.is at c.in_ok-pass.ensures.run in
    line_last _ _ _ run.0 (key_value c.args.into.now) run.1

pub returns-in-Some-eq10-clause-reads : goal.returns-in-Some-eq10-clause-reads
returns-in-Some-eq10-clause-reads g c =
    let run = rw c.in-Some-eq10.is at c.in_ok-pass.ensures.run in
    let newline : c.in-Some-eq10.field-0 ≡ 10 = omega arith in
    line_ignored _ _ _ run.0 _ (key_value c.args.into.now) run.1 newline

pub returns-in-None-2-clause-reads : goal.returns-in-None-2-clause-reads
returns-in-None-2-clause-reads g c =
    let run = rw c.in-Some-eq35.is at c.in_ok-pass.ensures.run in
    let note = rw c.in-None-2.is at c.in_ok-pass-in-Some-eq35.ensures.run in
    let sign : c.in-Some-eq35.field-0 ≡ 35 = omega arith in
    note_last _ _ _ _ run.0 note.0 _ (key_value c.args.into.now) run.1 sign note.1

pub returns-in-Some-2-clause-reads : goal.returns-in-Some-2-clause-reads
returns-in-Some-2-clause-reads g c =
    let run = rw c.in-Some-eq35.is at c.in_ok-pass.ensures.run in
    let note = rw c.in-Some-2.is at c.in_ok-pass-in-Some-eq35.ensures.run in
    let sign : c.in-Some-eq35.field-0 ≡ 35 = omega arith in
    note_ignored _ _ _ _ run.0 note.0 _ _ (key_value c.args.into.now) run.1 sign note.1

pub returns-then-newline-clause-reads : goal.returns-then-newline-clause-reads
returns-then-newline-clause-reads g c =
    let run = rw c.in-Some.is at c.in_ok-pass.ensures.run in
    let other : c.in-Some.first ≢ 10 = omega arith in
    let note : c.in-Some.first ≢ 35 = omega arith in
    line_of_pair _ _ _ _ run.0 (10 ∷ []) _ _ run.1 other note (rw c.if-newline.true at c.in_ok-newline-in-Some.ensures.reads)

pub returns-else-newline-clause-reads : goal.returns-else-newline-clause-reads
returns-else-newline-clause-reads g c =
    let run = rw c.in-Some.is at c.in_ok-pass.ensures.run in
    let other : c.in-Some.first ≢ 10 = omega arith in
    let note : c.in-Some.first ≢ 35 = omega arith in
    line_of_pair _ _ _ _ run.0 [] _ _ run.1 other note (rw c.if-newline.false at c.in_ok-newline-in-Some.ensures.reads)
