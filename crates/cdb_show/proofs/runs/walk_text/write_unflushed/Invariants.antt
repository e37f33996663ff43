use Rattle.cdb_form.specs.Views.RecordReader.{bytes_left, reader_of}
use Rattle.cdb_show.specs.Runs.WalkText.{form_of}
use Rattle.cdb_show.proofs.WholeTexts.{WrittenSoFar}
use Rattle.cdb_show.proofs.runs.walk_text.write_unflushed.Given as goal

-- what the text has of the records so far was written
abbrev pub invariant-loop-peeked : goal.invariant-loop-peeked
invariant-loop-peeked g l = WrittenSoFar g.L.Width.WORD (form_of l.fn.content l.fn.style) g.R.Feeds.feed (g.R.Feeds.feed (reader_of l.fn.records)) l.records (g.W.Sink.contents l.fn.w) (g.W.Sink.contents l.w)

abbrev pub decreases-loop-peeked : goal.decreases-loop-peeked
decreases-loop-peeked g l = bytes_left l.records
