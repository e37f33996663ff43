use Rattle.cdb_form.proofs.Words.{arith, bitmask_splat, leb, w8}
use Rattle.cdb_form.proofs.text.lanes.word_ends.Goals as goal

pub returns : goal.returns
returns c = bitmask_splat w8 leb c.args.bytes 16 32 c.fits-bytes.0 (omega arith)
