use Rattle.cdb_form.proofs.Fed.KnownReaders.{reader_ends}
use Rattle.cdb_form.proofs.feeds.AnyFeeds.read_some.Goals as goal

pub returns-clause-end : goal.returns-clause-end
returns-clause-end g c = reader_ends _ _ _ c.read.new.buf _ c.read.auto.buf c.read.ensures.bytes
