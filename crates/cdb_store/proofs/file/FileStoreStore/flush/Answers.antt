use Rattle.cdb_store.proofs.Words.{rules}
use Rattle.cdb_store.proofs.file.FileStoreStore.flush.Goals as goal

pub returns-in-Ok-clause-images : goal.returns-in-Ok-clause-images
returns-in-Ok-clause-images g c = search rules

pub returns-in-Ok-clause-ok : goal.returns-in-Ok-clause-ok
returns-in-Ok-clause-ok g c = search rules

pub returns-in-Ok-clause-synced : goal.returns-in-Ok-clause-synced
returns-in-Ok-clause-synced g c = search rules

pub returns-in_err-refuse_if_lost-clause-images : goal.returns-in_err-refuse_if_lost-clause-images
returns-in_err-refuse_if_lost-clause-images g c = search rules
