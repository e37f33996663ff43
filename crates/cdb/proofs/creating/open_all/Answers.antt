use Rattle.cdb.proofs.Words.{[], map, option_map, string_bytes}
use Rattle.cdb_system.specs.Answered.{if_some}
use Rattle.cdb.specs.Reasons.{HasRefusedFile, store_reasons}
use Rattle.cdb.proofs.Reasons.{base_missed, inputs_missed_behind}
use Rattle.cdb.proofs.creating.open_all.Goals as goal

pub returns-in-Err-clause-reason : goal.returns-in-Err-clause-reason
returns-in-Err-clause-reason g c =
    base_missed (store_reasons g.Y.File.Store [] (HasRefusedFile (g.Y.System.calls c.args.system.now) (g.Y.System.calls c.open_base.new.system))) (option_map string_bytes c.args.creation.base.now) (g.Y.System.calls c.args.system.now) (g.Y.System.calls c.open_base.new.system) c.in-Err.fault (λ refused. refused) c.in-Err.ensures.missed

pub returns-in-Err-open_inputs-clause-reason : goal.returns-in-Err-open_inputs-clause-reason
returns-in-Err-open_inputs-clause-reason g c =
    inputs_missed_behind g.Y.System (store_reasons g.Y.File.Store (if_some c.see_base-base.result.0) (HasRefusedFile (g.Y.System.calls c.args.system.now) (g.Y.System.calls c.open_inputs.new.system))) (option_map string_bytes c.args.creation.base.now) c.in-Ok.base (map string_bytes c.args.creation.inputs.now) (g.Y.System.calls c.args.system.now) (g.Y.System.calls c.open_base.new.system) (g.Y.System.calls c.open_inputs.new.system) c.in-Err-open_inputs.fault (λ refused. refused) c.in-Ok.ensures.ok c.in-Err-open_inputs.ensures.stops
