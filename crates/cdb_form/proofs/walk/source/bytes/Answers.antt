use Rattle.cdb_form.proofs.Words.{arith}
use Rattle.cdb_form.proofs.Sources.AskingLemmas.{unread_so}
use Rattle.cdb_form.proofs.walk.source.bytes.Goals as goal

pub returns-in-Ok-clause-are : goal.returns-in-Ok-clause-are
returns-in-Ok-clause-are g c = omega arith

pub returns-in-Err-clause-unread : goal.returns-in-Err-clause-unread
returns-in-Err-clause-unread g c = rw c.of_reader.ensures (unread_so _ _ _ _ c.args.early c.in-Err.unread c.in-Err.ensures.why (omega arith) c.requires)
