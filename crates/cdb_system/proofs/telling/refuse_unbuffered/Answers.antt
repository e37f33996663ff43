use Rattle.cdb_system.proofs.Words.{ap, codes, same_writes, ◌++◌, ◌∙◌}
use Rattle.cdb_system.proofs.telling.refuse_unbuffered.Goals as goal

pub returns-clause-line : goal.returns-clause-line
returns-clause-line g c =
    let line = ap (λ t. codes "cdb: " ++ (t ++ codes "\n")) (c.as_bytes.ensures.value ∙ c.message.ensures) in
    same_writes c.write_pieces-written.result _ _ _ _ line c.write_pieces-written.ensures.writes
