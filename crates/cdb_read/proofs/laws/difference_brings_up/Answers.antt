use Rattle.cdb_form.specs.Views.Pairs.{key_values}
use Rattle.cdb_read.proofs.Differences.{brings_up}
use Rattle.cdb_read.proofs.laws.difference_brings_up.Goals as goal

pub returns : goal.returns
returns c = brings_up (key_values c.args._old.now) (key_values c.args._new.now) c.args._key.now
