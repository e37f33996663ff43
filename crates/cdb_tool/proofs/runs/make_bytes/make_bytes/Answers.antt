use Rattle.cdb_form.specs.Views.TextReader.{reader_of}
use Rattle.cdb_tool.proofs.WholeRuns.{makes_flushed}
use Rattle.cdb_tool.proofs.runs.make_bytes.make_bytes.Goals as goal

pub returns-clause-makes : goal.returns-clause-makes
returns-clause-makes g c = (
  g.R.Read.remaining (reader_of c.make_bytes_unflushed-made.new.text),
  rw c.new-text.ensures.reader at (makes_flushed _ _ _ _ _ _ _ _ _ c.make_bytes_unflushed-made.ensures.makes c.flushed.ensures.flushes),
)
