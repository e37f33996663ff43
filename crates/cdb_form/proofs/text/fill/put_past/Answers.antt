use Rattle.cdb_form.proofs.Words.{arith}
use Rattle.cdb_form.proofs.Bytes.CopyLemmas.{put_record}
use Rattle.cdb_form.proofs.text.fill.put_past.Goals as goal

pub returns : goal.returns
returns g c =
    put_record g.L.Width.WORD c.args.klen c.args.vlen c.args.end _ _ _ _ _ _ _ _ c.args.into.now _ _ _ _ c.args.key.now c.args.value.now (omega arith) c.write_word.ensures c.write_word-2.ensures
    c.copy_short.ensures c.copy_past.ensures (omega arith) (omega arith) (omega arith) (omega arith) (omega arith) (omega arith)
