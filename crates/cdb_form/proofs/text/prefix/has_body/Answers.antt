use Rattle.cdb_form.proofs.Words.{arith, eqb-true}
use Rattle.cdb_form.proofs.NativeTexts.PrefixLemmas.{body_prefix}
use Rattle.cdb_form.proofs.text.prefix.has_body.Goals as goal

pub returns : goal.returns
returns c = λ e. body_prefix c.args.klen c.args.vlen c.args.bytes.now (omega arith) (omega arith) (omega arith) (eqb-true _ _ e)
