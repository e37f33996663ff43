use Rattle.cdb_show.proofs.InputsGiven.{all_given}
use Rattle.cdb_show.proofs.laws.inputs_are_given.Goals as goal

pub returns : goal.returns
returns g c = λ unread first read stop are inputs shared long agree agrees.
    all_given g.R.Feeds.feed g.S.Feeds.feed (g.P.InputParser.parsing c.args._parser.now) read stop c.args._before.now c.args._after.now c.args._old.now c.args._new.now inputs shared unread first are agree long agrees
