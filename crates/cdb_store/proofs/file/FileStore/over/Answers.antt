use Rattle.cdb_store.proofs.Words.{rules}
use Rattle.cdb_store.proofs.file.FileStore.over.Goals as goal

pub invariant_of-result : goal.invariant_of-result
invariant_of-result g c = search rules
