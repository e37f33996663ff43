use Rattle.cdb_show.proofs.word_message.write_word_fault.Goals as goal

pub returns-in-Unknown-clause-writes : goal.returns-in-Unknown-clause-writes
returns-in-Unknown-clause-writes g c = rw c.in-Unknown.is c.write_letter.ensures.writes

pub returns-in-NoCommand-clause-writes : goal.returns-in-NoCommand-clause-writes
returns-in-NoCommand-clause-writes g c = rw c.in-NoCommand.is c.write_text-in-NoCommand.ensures.writes

pub returns-in-BaseInPlace-clause-writes : goal.returns-in-BaseInPlace-clause-writes
returns-in-BaseInPlace-clause-writes g c = rw c.in-BaseInPlace.is c.write_text-in-BaseInPlace.ensures.writes

pub returns-in-Both-clause-writes : goal.returns-in-Both-clause-writes
returns-in-Both-clause-writes g c = rw c.in-Both.is c.write_text-in-Both.ensures.writes
