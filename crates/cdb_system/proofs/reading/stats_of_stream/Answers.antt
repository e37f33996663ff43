use Rattle.cdb_system.proofs.Words.{IfOk, IsWhole, inr, subst}
use Rattle.cdb_system.proofs.reading.stats_of_stream.Goals as goal

pub returns-in-Ok-clause-takes : goal.returns-in-Ok-clause-takes
returns-in-Ok-clause-takes g c = inr (record {
  store = c.in-Ok.store;
  is = subst (λ r. IfOk r (IsWhole g.L.Width.GREATEST (g.F.Feeds.feed c.args.stream) (g.F.Feeds.feed c.taken-stream.result.0))) c.in-Ok.is c.taken-stream.ensures.ok;
  last = c.stats_run.result.0;
  does = c.stats_run.ensures.tells;
})
