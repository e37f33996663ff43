use Rattle.cdb_form.specs.Views.Pairs.{key_values}
use Rattle.cdb_form.specs.Views.RecordReader.{bytes_left, reader_of}
use Rattle.cdb_form_tests.proofs.WholeWalks.{Gave}
use Rattle.cdb_form_tests.proofs.tests.walking.walk.Given as goal

-- the records so far
abbrev pub invariant-loop-record : goal.invariant-loop-record
invariant-loop-record g l = Gave g.L.Width.WORD g.F.Feeds.feed (g.F.Feeds.feed (reader_of l.fn.reader)) l.reader (key_values l.records.items)

-- each record lowers the bytes left
abbrev pub decreases-loop-record : goal.decreases-loop-record
decreases-loop-record g l = bytes_left l.reader
