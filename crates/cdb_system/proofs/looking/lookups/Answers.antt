use Rattle.cdb_system.specs.State.{wanted_lookups}
use Rattle.cdb_system.proofs.StreamsRead.{keys_looked_up}
use Rattle.cdb_system.proofs.looking.lookups.Goals as goal

pub returns-in-Ok-open_inputs-clause-performs : goal.returns-in-Ok-open_inputs-clause-performs
returns-in-Ok-open_inputs-clause-performs g c = λ named errors.
    keys_looked_up _ _ _ _ _ _ (wanted_lookups g.L.Width.WORD g.L.Width.GREATEST c.args.wanted) _ c.in-Ok.store c.lookups_run-store.result.0 c.in-Ok-open_inputs.inputs c.lookups_run-store.result.1 c.in-Ok.ensures.calls c.in-Ok.ensures.gives c.in-Ok-open_inputs.ensures.ok c.in-Ok-open_inputs.ensures.unread c.in-Ok-open_inputs.ensures.shared c.looked_left.ensures c.lookups_run-store.ensures.looks
