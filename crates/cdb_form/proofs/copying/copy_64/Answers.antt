use Rattle.cdb_form.proofs.Bytes.CopyLemmas.{put_halves}
use Rattle.cdb_form.proofs.copying.copy_64.Goals as goal

pub returns : goal.returns
returns c = put_halves 32 c.args.from.now c.args.into.now c.requires.from c.requires.into
