use Rattle.cdb_store.proofs.Words.{arith, common_steps, length, length-take, rules, ℕ}
use Rattle.cdb_store.proofs.Moves.{torn_wider}
use Rattle.cdb_store.proofs.fuse.FuseStoreStore.write_at.Goals as goal

pub returns-in-Ok-clause-torn : goal.returns-in-Ok-clause-torn
returns-in-Ok-clause-torn g c = torn_wider c.args.pos _ (length c.args.bytes.now) _ _ (omega (arith, length-take {A = ℕ})) c.write_at.ensures.torn

pub returns-in_default-clause-torn : goal.returns-in_default-clause-torn
returns-in_default-clause-torn g c = torn_wider c.args.pos _ (length c.args.bytes.now) _ _ (omega (arith, length-take {A = ℕ})) c.write_at.ensures.torn

pub returns-in-Ok-clause-part : goal.returns-in-Ok-clause-part
returns-in-Ok-clause-part g c = grind (arith, common_steps)

pub returns-clause-memory_size : goal.returns-clause-memory_size
returns-clause-memory_size g c = search rules

pub returns-in-Ok-clause-at_most_written : goal.returns-in-Ok-clause-at_most_written
returns-in-Ok-clause-at_most_written g c = search rules

pub returns-in-Ok-clause-memory_written : goal.returns-in-Ok-clause-memory_written
returns-in-Ok-clause-memory_written g c = search rules

pub returns-clause-memory_room : goal.returns-clause-memory_room
returns-clause-memory_room g c = search rules

pub returns-in-Ok-clause-past_room : goal.returns-in-Ok-clause-past_room
returns-in-Ok-clause-past_room g c = search rules

pub returns-in_default-clause-past_room : goal.returns-in_default-clause-past_room
returns-in_default-clause-past_room g c = search rules

pub returns-clause-part : goal.returns-clause-part
returns-clause-part g c = search rules

pub returns-in-Ok-clause-memory_size : goal.returns-in-Ok-clause-memory_size
returns-in-Ok-clause-memory_size g c = search rules

pub returns-clause-memory_failures : goal.returns-clause-memory_failures
returns-clause-memory_failures g c = search rules

pub returns-in-Ok-clause-memory_room : goal.returns-in-Ok-clause-memory_room
returns-in-Ok-clause-memory_room g c = search rules

pub returns-clause-past_room : goal.returns-clause-past_room
returns-clause-past_room g c = search rules

pub returns-clause-memory_written : goal.returns-clause-memory_written
returns-clause-memory_written g c = search rules

pub returns-in-Ok-clause-memory_failures : goal.returns-in-Ok-clause-memory_failures
returns-in-Ok-clause-memory_failures g c = search rules

pub returns-in_default-clause-part : goal.returns-in_default-clause-part
returns-in_default-clause-part g c = grind (arith, common_steps)

pub returns-in-Ok-clause-part_torn : goal.returns-in-Ok-clause-part_torn
returns-in-Ok-clause-part_torn g c = λ last. torn_wider c.args.pos _ _ _ _ (omega (arith, length-take {A = ℕ})) c.write_at.ensures.torn

pub returns-in_default-clause-part_torn : goal.returns-in_default-clause-part_torn
returns-in_default-clause-part_torn g c = λ last. torn_wider c.args.pos _ _ _ _ (omega (arith, length-take {A = ℕ})) c.write_at.ensures.torn

pub returns-in-Ok-clause-part_size : goal.returns-in-Ok-clause-part_size
returns-in-Ok-clause-part_size g c = grind (arith, common_steps)

pub returns-in_default-clause-part_size : goal.returns-in_default-clause-part_size
returns-in_default-clause-part_size g c = grind (arith, common_steps)

pub returns-clause-part_torn : goal.returns-clause-part_torn
returns-clause-part_torn g c = grind (arith, common_steps)

pub returns-in_default-clause-not_past : goal.returns-in_default-clause-not_past
returns-in_default-clause-not_past g c = search rules

pub returns-clause-part_written : goal.returns-clause-part_written
returns-clause-part_written g c = search rules

pub returns-in_default-clause-at_most_written : goal.returns-in_default-clause-at_most_written
returns-in_default-clause-at_most_written g c = search rules

pub returns-clause-ok_failures : goal.returns-clause-ok_failures
returns-clause-ok_failures g c = search rules

pub returns-clause-part_size : goal.returns-clause-part_size
returns-clause-part_size g c = search rules

pub returns-in_default-clause-count_err : goal.returns-in_default-clause-count_err
returns-in_default-clause-count_err g c = search rules

pub returns-in_default-clause-memory : goal.returns-in_default-clause-memory
returns-in_default-clause-memory g c = search rules
