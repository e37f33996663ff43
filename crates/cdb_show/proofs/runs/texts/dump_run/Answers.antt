use Rattle.cdb_show.proofs.runs.texts.dump_run.Goals as goal

pub returns-clause-writes : goal.returns-clause-writes
returns-clause-writes g c = (g.R.Read.remaining c.text_run-answer.result.0, c.text_run-answer.ensures.writes)
