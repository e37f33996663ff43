use Rattle.cdb_show.proofs.runs.lookups_of_inputs.lookups_run.Goals as goal

pub returns-clause-looks : goal.returns-clause-looks
returns-clause-looks g c = record { mid = _; answer = _; leaves = c.lookups_unflushed-store.ensures.leaves; flushed = c.flushed_whole-answer.ensures.flushes }
