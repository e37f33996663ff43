use Rattle.cdb_show.proofs.Words.{Fault, ap, append-nil, append_assoc, appends_then, err_from_is_err_and, prefix_in, prefix_then, same_appends, same_prefix, same_writes, sym, writes_last, writes_prefix, ◌++◌, ◌∙◌, ◌≡◌}
use Rattle.std.specs.Prelude.{codes}
use Rattle.cdb_show.specs.Message.{said_place, fault_place, fault_message, fault_side, said_line}
use Rattle.cdb_show.proofs.message.write_said.Goals as goal

in_three : (f : Fault) → said_line f ≡ (codes "cdb: " ++ fault_side f) ++ (said_place (fault_place f) ++ (fault_message f ++ codes "\n"))
in_three f =
    let side = fault_side f in
    let place = said_place (fault_place f) in
    let said = fault_message f in
    ap (λ t. codes "cdb: " ++ t) (append_assoc (side ++ place) said (codes "\n") ∙ append_assoc side place (said ++ codes "\n"))

pub returns-in_err-write_pieces-clause-writes : goal.returns-in_err-write_pieces-clause-writes
returns-in_err-write_pieces-clause-writes g c =
    let p = err_from_is_err_and c.from_residual.result c.from_residual.ensures.1 in
    let f = c.args.fault.now in
    let first = same_prefix _ _ _ _ (ap (λ t. codes "cdb: " ++ t) (append-nil _ ∙ c.as_bytes.ensures.value ∙ c.side.ensures)) c.in_err-write_pieces.ensures.writes.err in
    writes_prefix _ _ _ _ _ p.1 (prefix_in _ _ (codes "cdb: " ++ fault_side f) _ _ first (in_three f))

pub returns-in_err-write_place-clause-writes : goal.returns-in_err-write_place-clause-writes
returns-in_err-write_place-clause-writes g c =
    let p = err_from_is_err_and c.from_residual-in_err-write_place.result c.from_residual-in_err-write_place.ensures.1 in
    let f = c.args.fault.now in
    let first = same_appends _ _ _ _ (ap (λ t. codes "cdb: " ++ t) (append-nil _ ∙ c.as_bytes.ensures.value ∙ c.side.ensures)) c.in_ok-write_pieces.ensures.writes.ok in
    let place = same_prefix _ _ _ _ (ap said_place c.place.ensures) c.in_err-write_place.ensures.writes.err in
    writes_prefix _ _ _ _ _ p.1 (prefix_then _ _ _ (codes "cdb: " ++ fault_side f) (said_place (fault_place f)) (fault_message f ++ codes "\n") (said_line f) first place (in_three f))

pub returns-clause-writes : goal.returns-clause-writes
returns-clause-writes g c =
    let f = c.args.fault.now in
    let first = same_appends _ _ _ _ (ap (λ t. codes "cdb: " ++ t) (append-nil _ ∙ c.as_bytes.ensures.value ∙ c.side.ensures)) c.in_ok-write_pieces.ensures.writes.ok in
    let place = same_appends _ _ _ _ (ap said_place c.place.ensures) c.in_ok-write_place.ensures.writes.ok in
    let before = appends_then _ _ _ (codes "cdb: " ++ fault_side f) (said_place (fault_place f)) first place in
    let line = same_writes c.write_pieces-2.result _ _ _ _ (ap (λ t. t ++ codes "\n") (c.as_bytes-2.ensures.value ∙ c.message.ensures)) c.write_pieces-2.ensures.writes in
    writes_last c.write_pieces-2.result _ _ _ ((codes "cdb: " ++ fault_side f) ++ said_place (fault_place f)) (fault_message f ++ codes "\n") (said_line f) before line (in_three f ∙ sym (append_assoc (codes "cdb: " ++ fault_side f) (said_place (fault_place f)) (fault_message f ++ codes "\n")))
