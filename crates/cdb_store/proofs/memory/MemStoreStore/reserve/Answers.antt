use Rattle.cdb_store.proofs.Words.{rules}
use Rattle.cdb_store.proofs.memory.MemStoreStore.reserve.Goals as goal

pub returns-in_ok-reserve-clause-ok : goal.returns-in_ok-reserve-clause-ok
returns-in_ok-reserve-clause-ok c = search rules
