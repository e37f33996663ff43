use Rattle.cdb_store.proofs.Words.{arith, common_steps, rules}
use Rattle.cdb_store.proofs.memory.MemStoreStore.write_at.Goals as goal

pub write_over-requires-clause-end : goal.write_over-requires-clause-end
write_over-requires-clause-end c = search rules

pub returns-in_err-write_over-clause-past_room : goal.returns-in_err-write_over-clause-past_room
returns-in_err-write_over-clause-past_room c = search rules

pub returns-clause-ok : goal.returns-clause-ok
returns-clause-ok c = search rules

pub returns-clause-ok_size : goal.returns-clause-ok_size
returns-clause-ok_size c = grind (arith, common_steps)
