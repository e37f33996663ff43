use Rattle.cdb_form.proofs.Fed.KnownReaders.{reader_gives, known_consumes}
use Rattle.cdb_show.proofs.laws.known_reader_is_fed.Goals as goal

pub returns-clause-takes : goal.returns-clause-takes
returns-clause-takes g c = λ bytes taken. reader_gives _ _ bytes taken

pub returns-clause-back : goal.returns-clause-back
returns-clause-back g c = λ bytes taken. known_consumes _ _ bytes taken
