use Rattle.cdb_show.proofs.Words.{ap, missing_answer, refl, sym}
use Rattle.cdb_show.specs.Runs.Lookups.{lookup_task}
use Rattle.cdb_show.proofs.FedLookupRuns.{fed_stopped, fed_unended, fed_whole}
use Rattle.cdb_show.proofs.runs.lookups.LookUps.look_up_all.Goals as goal

pub returns-in-Err-clause-leaves : goal.returns-in-Err-clause-leaves
returns-in-Err-clause-leaves g c =
    fed_stopped {s = g.S.Store} {l = g.L.Width} (lookup_task g.L.Width.WORD g.L.Width.GREATEST g.S.Store c.args.self.now.options) g.J.Feeds.feed g.I.Feeds.feed c.args.inputs c.do_inputs-left.result.0 _ _ refl c.args.looking.now.reader.long
    c.in-Err.fault (rw c.in-Err.is at c.do_inputs-left.ensures.fails)

pub returns-in-Err-write_last-clause-leaves : goal.returns-in-Err-write_last-clause-leaves
returns-in-Err-write_last-clause-leaves g c =
    fed_unended {s = g.S.Store} {l = g.L.Width} (lookup_task g.L.Width.WORD g.L.Width.GREATEST g.S.Store c.args.self.now.options) g.J.Feeds.feed g.I.Feeds.feed c.args.inputs c.do_inputs-left.result.0 _ _ refl c.args.looking.now.reader.long
    (rw c.in-Ok.is at c.do_inputs-left.ensures.ok) _ c.in-Err-write_last.ensures.writes.err

pub returns-then-looking-clause-leaves : goal.returns-then-looking-clause-leaves
returns-then-looking-clause-leaves g c =
    fed_whole {s = g.S.Store} {l = g.L.Width} (lookup_task g.L.Width.WORD g.L.Width.GREATEST g.S.Store c.args.self.now.options) g.J.Feeds.feed g.I.Feeds.feed c.args.inputs c.do_inputs-left.result.0 _ _ refl c.args.looking.now.reader.long
    (rw c.in-Ok.is at c.do_inputs-left.ensures.ok) _ _ (ap missing_answer (sym c.if-looking.true)) c.in-Ok-write_last.ensures.writes.ok

pub returns-else-looking-clause-leaves : goal.returns-else-looking-clause-leaves
returns-else-looking-clause-leaves g c =
    fed_whole {s = g.S.Store} {l = g.L.Width} (lookup_task g.L.Width.WORD g.L.Width.GREATEST g.S.Store c.args.self.now.options) g.J.Feeds.feed g.I.Feeds.feed c.args.inputs c.do_inputs-left.result.0 _ _ refl c.args.looking.now.reader.long
    (rw c.in-Ok.is at c.do_inputs-left.ensures.ok) _ _ (ap missing_answer (sym c.if-looking.false)) c.in-Ok-write_last.ensures.writes.ok
