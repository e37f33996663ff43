use Rattle.cdb_form.proofs.Words.{rules}
use Rattle.cdb_form.proofs.writing.AnySink.flush_whole.Goals as goal

pub returns-in-Ok : goal.returns-in-Ok
returns-in-Ok g c = search rules

pub returns-then-ne : goal.returns-then-ne
returns-then-ne g c = search rules
