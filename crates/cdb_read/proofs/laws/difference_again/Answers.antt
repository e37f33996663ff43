use Rattle.cdb_form.specs.Views.Pairs.{key_values}
use Rattle.cdb_read.proofs.Differences.{changed_comes, unchanged_stays}
use Rattle.cdb_read.proofs.DoneAgain.{done_again}
use Rattle.cdb_read.proofs.laws.difference_again.Goals as goal

pub returns-clause-changed : goal.returns-clause-changed
returns-clause-changed c = changed_comes c.args._key.now (key_values c.args._old.now) (key_values c.args._new.now) (key_values c.args._other.now)

pub returns-clause-others : goal.returns-clause-others
returns-clause-others c = unchanged_stays c.args._key.now (key_values c.args._old.now) (key_values c.args._new.now) (key_values c.args._other.now)

pub returns-clause-again : goal.returns-clause-again
returns-clause-again c = done_again (key_values c.args._old.now) (key_values c.args._new.now) (key_values c.args._other.now)
