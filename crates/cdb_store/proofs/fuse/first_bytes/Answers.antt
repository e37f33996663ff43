use Rattle.cdb_store.proofs.FuseLemmas.{take_of_three}
use Rattle.cdb_store.proofs.fuse.first_bytes.Goals as goal

pub returns : goal.returns
returns c = take_of_three c.min-of_first.result c.min-of_second.result c.min-of_third.result c.args.n c.args.first.now c.args.second.now c.args.third.now
    c.min-of_first.ensures c.min-of_second.ensures c.min-of_third.ensures
