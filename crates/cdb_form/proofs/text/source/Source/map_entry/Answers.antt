use Rattle.cdb_form.proofs.Words.{[], arith, common_steps, err_from_is_err_and, ◌++◌, ◌∷◌}
use Rattle.cdb_form.proofs.MapTexts.MapReads.{lines_fail, lines_found, lines_more}
use Rattle.cdb_form.proofs.text.source.Source.map_entry.Goals as goal

pub returns-in_err-line_buffered-clause-leaves : goal.returns-in_err-line_buffered-clause-leaves
returns-in_err-line_buffered-clause-leaves g c =
    let p = err_from_is_err_and c.from_residual.result c.from_residual.ensures.1 in
    let so = c.loop.invariant in
    rw (p.1, p.2) (lines_fail _ _ _ _ so.0 _ so.1 c.in_err-line_buffered.ensures.leaves)

pub loop-preserved : goal.loop-preserved
loop-preserved g c =
    let so = c.loop.invariant in
    let line = rw c.in-Ignored.is at c.in_ok-line_buffered.ensures.reads in
    (so.0 ++ line.0 ∷ [], lines_more _ _ _ _ so.0 line.0 so.1 line.1 line.2 c.in_ok-line_buffered.ensures.fewer)

pub returns-in-Pair-clause-reads : goal.returns-in-Pair-clause-reads
returns-in-Pair-clause-reads g c =
    let so = c.loop.invariant in
    let line = rw c.in-Pair.is at c.in_ok-line_buffered.ensures.reads in
    lines_found _ _ _ _ so.0 line.0 _ _ so.1 line.1 line.2

pub returns-in-LastPair-clause-reads : goal.returns-in-LastPair-clause-reads
returns-in-LastPair-clause-reads g c =
    let so = c.loop.invariant in
    let line = rw c.in-LastPair.is at c.in_ok-line_buffered.ensures.reads in
    lines_found _ _ _ _ so.0 line.0 _ _ so.1 line.1 line.2

pub returns-in-Last-clause-reads : goal.returns-in-Last-clause-reads
returns-in-Last-clause-reads g c = grind (arith, common_steps)

pub returns-in-Pair-clause-leaves : goal.returns-in-Pair-clause-leaves
returns-in-Pair-clause-leaves g c = omega arith
