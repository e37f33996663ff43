use Rattle.cdb_show.specs.Runs.Lookups.{lookup_task}
use Rattle.cdb_show.proofs.FedLookupRuns.{fed_begun, fed_unopened}
use Rattle.cdb_show.proofs.runs.lookups_of_inputs.lookups_unflushed.Goals as goal

pub returns-in-Err-clause-leaves : goal.returns-in-Err-clause-leaves
returns-in-Err-clause-leaves g c = rw c.from.ensures (fed_unopened (lookup_task g.L.Width.WORD g.L.Width.GREATEST g.S.Store c.args.options) g.J.Feeds.feed g.I.Feeds.feed _ _ _ _ c.in-Err.unread.fault c.in-Err.ensures.fails)

pub returns-clause-leaves : goal.returns-clause-leaves
returns-clause-leaves g c =
    fed_begun (lookup_task g.L.Width.WORD g.L.Width.GREATEST g.S.Store c.args.options) g.J.Feeds.feed g.I.Feeds.feed c.args.inputs c.look_up_all-left.result.0 c.args.store c.in-Ok.reader.store c.look_up_all-left.new.looking.reader.store c.into_store.result _ _ c.look_up_all-left.result.1
    c.in-Ok.ensures.reads c.in-Ok.reader.long c.into_store.ensures c.look_up_all-left.ensures.leaves
