use Rattle.std.proofs.Common.{rules}
use Rattle.cdb_store.proofs.memory.MemStore.bytes.Goals as goal

pub returns-clause-bytes : goal.returns-clause-bytes
returns-clause-bytes c = search rules

pub returns-clause-images : goal.returns-clause-images
returns-clause-images c = search rules
