use Rattle.cdb_read.proofs.Words.{brought_up, key_values}
use Rattle.cdb_read.proofs.Differences.{brings_up, same_is_empty}
use Rattle.cdb_read.proofs.laws.brought_up_does_not_differ.Goals as goal

pub returns : goal.returns
returns c =
    let rs = key_values c.args._old.now in
    let ss = key_values c.args._new.now in
    same_is_empty (brought_up rs ss) ss (brings_up rs ss)
