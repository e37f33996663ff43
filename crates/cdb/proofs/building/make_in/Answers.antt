use Rattle.cdb.proofs.Agreeing.{run_placed}
use Rattle.cdb.proofs.Reasons.{run_reason}
use Rattle.std.proofs.Common.{◌<◌}
use Rattle.cdb.proofs.building.make_in.Goals as goal

pub returns-clause-runs : goal.returns-clause-runs
returns-clause-runs g c =
    let run = c.make_run_from-store.ensures in
    record { hands = run.hands; base_failed = run.base_failed; runs = run.runs }

pub returns-clause-placed : goal.returns-clause-placed
returns-clause-placed g c = run_placed g.L.Width.WORD g.L.Width.GREATEST _ g.Y.Stream.Feeds.feed g.Y.Input.Feeds.feed g.Y.File.Store _ _ _ _ _ _ _ _ c.make_run_from-store.ensures.runs

pub returns-clause-reason : goal.returns-clause-reason
returns-clause-reason g c =
    let run = c.make_run_from-store.ensures in
    run_reason g.Y.File.Store g.Y.Stream.Feeds.feed g.Y.Input.Feeds.feed c.args.contents.sources.base (record { base = c.make_run_from-store.result.1; inputs = c.make_run_from-store.result.2 }) (g.S.Store.failures c.args.store < g.S.Store.failures c.make_run_from-store.result.0) _ _ c.make_run_from-store.result.3
    run.runs.is.of_input run.failed run.base_failed
