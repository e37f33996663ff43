use Rattle.std.proofs.Common.{inr}
use Rattle.cdb_system.proofs.Streams.{text_handed}
use Rattle.cdb_system.proofs.reading.write_text.Goals as goal

pub returns-in-Ok-clause-writes : goal.returns-in-Ok-clause-writes
returns-in-Ok-clause-writes g c =
    inr (text_handed g.F.Feeds.feed _ _ _ _ c.text_run-window.result.0 _ _ _ _ c.in-Ok.ensures.kept c.into_reader.ensures.reader c.text_run-window.ensures.writes)
