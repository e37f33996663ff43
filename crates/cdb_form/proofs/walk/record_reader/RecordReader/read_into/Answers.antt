use Rattle.std.proofs.lemmas.Result.{IfOk-weaker}
use Rattle.cdb_form.proofs.RecordReading.StreamLemmas.{kept_both, match_weaker}
use Rattle.cdb_form.proofs.walk.record_reader.RecordReader.read_into.Goals as goal

pub returns-clause-gives : goal.returns-clause-gives
returns-clause-gives g c = IfOk-weaker c.read_kept.result _ _ (λ given h. match_weaker _ _ _ given (kept_both g.L.Width.WORD g.R.Feeds.feed c.args.self.now c.read_kept.new.self c.read_kept.new.into) h) c.read_kept.ensures.gives
