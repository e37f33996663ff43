use Rattle.cdb_form.proofs.Words.{arith, refl, ◌+◌}
use Rattle.std.proofs.lemmas.Result.{IfErr-weaker, on_ok_weaker, on_err_weaker}
use Rattle.cdb_form.proofs.Fed.FeedLemmas.{consumes_then}
use Rattle.cdb_form.proofs.RecordReading.RecordReads.{loses_then, fewer_then, short_then}
use Rattle.cdb_form.proofs.walk.source.record_body.Goals as goal

pub returns-clause-read : goal.returns-clause-read
returns-clause-read g c =
    let key = c.bytes.new.into.items in
    on_ok_weaker c.record_value.result (λ v. (
      record { key = key; value = v.bytes },
      record { key = refl; value = v.kept },
      record { read = consumes_then _ _ _ key v.bytes c.in_ok-bytes.ensures.read v.read; klen = c.in_ok-bytes.ensures.long; vlen = v.long },
    )) c.record_value.ensures.read

pub returns-clause-fails : goal.returns-clause-fails
returns-clause-fails g c =
    let ok = c.in_ok-bytes.ensures in
    IfErr-weaker c.record_value.result _ _ (λ f h damage. (
      (h damage).0,
      short_then _ _ _ c.bytes.new.into.items c.args.header.vlen (c.args.header.klen + c.args.header.vlen) ok.read (h damage).1 (omega (arith, ok.long)),
    )) c.record_value.ensures.fails

pub returns-clause-loses : goal.returns-clause-loses
returns-clause-loses g c = loses_then _ _ _ c.bytes.new.into.items c.args.header.vlen _ c.in_ok-bytes.ensures.read c.record_value.ensures.loses (omega (arith, c.in_ok-bytes.ensures.long))

pub returns-clause-loses_fewer : goal.returns-clause-loses_fewer
returns-clause-loses_fewer g c =
    on_err_weaker c.record_value.result (λ l. fewer_then _ _ _ c.bytes.new.into.items c.args.header.vlen (c.args.header.klen + c.args.header.vlen) c.in_ok-bytes.ensures.read l (omega (arith, c.in_ok-bytes.ensures.long))) c.record_value.ensures.loses_fewer
