use Rattle.cdb_system.proofs.Words.{IfOk, IsWhole, inr, subst}
use Rattle.std.proofs.KnownBytes.{Keeps-refl}
use Rattle.cdb_system.proofs.reading.check_of_stream.Goals as goal

pub returns-in-Ok-clause-takes : goal.returns-in-Ok-clause-takes
returns-in-Ok-clause-takes g c = λ known. inr (record {
  store = c.in-Ok.store;
  is = subst (λ r. IfOk r (IsWhole g.L.Width.GREATEST (g.F.Feeds.feed c.args.stream) (g.F.Feeds.feed c.taken-stream.result.0))) c.in-Ok.is c.taken-stream.ensures.ok;
  last = c.check_run.result.0;
  does = record {
    kept = Keeps-refl known;
    reads = c.check_run.ensures.reads;
    sound = c.check_run.ensures.sound;
    fails = c.check_run.ensures.fails;
  };
})
