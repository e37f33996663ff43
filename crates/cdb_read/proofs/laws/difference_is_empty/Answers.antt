use Rattle.cdb_form.specs.Views.Pairs.{key_values}
use Rattle.cdb_read.proofs.Differences.{empty_is_same}
use Rattle.cdb_read.proofs.laws.difference_is_empty.Goals as goal

pub returns : goal.returns
returns c = empty_is_same (key_values c.args._old.now) (key_values c.args._new.now)
