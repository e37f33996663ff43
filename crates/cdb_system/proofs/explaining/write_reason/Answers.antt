use Rattle.std.proofs.Common.{◌∙◌, ◌++◌, ◌∷◌, [], ap, sym, unwrap_or}
use Rattle.cdb_system.proofs.Words.{parts_line, same_writes, shown}
use Rattle.cdb_system.specs.Causes.{name_ending, reason_name, said_of}
use Rattle.cdb_system.proofs.Said.{cause_parts, named_so}
use Rattle.cdb_system.proofs.explaining.write_reason.Goals as goal

pub returns-clause-writes : goal.returns-clause-writes
returns-clause-writes g c =
    let reason = c.args.reason.now in
    let whole = reason_name reason in
    let said = unwrap_or (said_of reason.told) [] in
    let named = named_so reason ∙ ap (λ t. shown t ++ shown (name_ending reason)) (sym c.as_bytes.ensures.value) ∙ ap (λ t. shown c.as_bytes.result.now ++ shown t) (sym c.ending.ensures) in
    let told = ap (λ t. t ++ c.as_bytes-3.result.now) c.as_bytes-2.ensures.value ∙ ap (λ t. c.said_parts.result.0.now ++ t) c.as_bytes-3.ensures.value ∙ c.said_parts.ensures in
    same_writes c.write_said.result _ _ _ _
    (cause_parts c.as_bytes.result.now c.ending.result.now whole c.between.result.now c.as_bytes-2.result.now c.as_bytes-3.result.now said named told ∙ ap (λ b. parts_line (([], whole) ∷ (b, []) ∷ (said, []) ∷ [])) c.between.ensures)
    c.write_said.ensures.writes
