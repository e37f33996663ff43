use Rattle.std.proofs.lemmas.Result.{IfErr-weaker, IfOk-weaker}
use Rattle.cdb_show.proofs.FedLoads.{all_loaded}
use Rattle.cdb_show.proofs.runs.load.load.Goals as goal

pub returns-clause-whole : goal.returns-clause-whole
returns-clause-whole g c = IfOk-weaker c.load_from.result _ _ (λ store h. all_loaded _ _ _ _ h) c.load_from.ensures.all

pub returns-clause-fails : goal.returns-clause-fails
returns-clause-fails g c = IfErr-weaker c.load_from.result _ _ (λ fault h. (g.R.Read.remaining c.load_from.new.reader, h)) c.load_from.ensures.stops
