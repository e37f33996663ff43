use Rattle.cdb_store.proofs.Words.{rules}
use Rattle.cdb_store.proofs.file.FileStore.open.Goals as goal

pub returns-in-Ok-clause-told : goal.returns-in-Ok-clause-told
returns-in-Ok-clause-told g c = search rules
