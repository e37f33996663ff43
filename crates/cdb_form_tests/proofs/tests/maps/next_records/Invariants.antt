use Rattle.cdb_form.specs.Views.MapReader.{reader_of}
use Rattle.cdb_form.specs.Views.Pairs.{key_values}
use Rattle.cdb_form_tests.proofs.WholeMaps.{Gave}
use Rattle.cdb_form_tests.proofs.tests.maps.next_records.Given as goal

-- the records so far are the first ones of the text
abbrev pub invariant-loop : goal.invariant-loop
invariant-loop g l = Gave g.F.Feeds.feed (g.F.Feeds.feed (reader_of l.fn.maps)) l.maps (key_values l.given.items)
