use Rattle.std.proofs.Common.{refl, ◌∙◌}
use Rattle.cdb_tool.proofs.runs.make_bytes.file_in_memory.Goals as goal

pub returns-in-Ok-clause-ok : goal.returns-in-Ok-clause-ok
returns-in-Ok-clause-ok g c = λ records h. c.into_vec.ensures ∙ (c.in-Ok.ensures.file records h).each c.in-Ok.store.bytes.items refl
