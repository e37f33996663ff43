use Rattle.cdb_show.proofs.InputsInTurn.{read_then}
use Rattle.cdb_show.proofs.laws.inputs_are_read_in_turn.Goals as goal

pub returns : goal.returns
returns g c = λ read more stop first same others.
    read_then g.R.Feeds.feed g.S.Feeds.feed (g.P.InputParser.parsing c.args._parser.now) read more stop c.args._before.now c.args._between.now c.args._after.now c.args._old.now c.args._mid.now c.args._new.now first same others
