use Rattle.cdb_show.proofs.InputsGiven.{known_given}
use Rattle.cdb_show.proofs.laws.known_inputs_are_given.Goals as goal

pub returns : goal.returns
returns g c = λ read stop are inputs shared have has.
    known_given g.R.Read.remaining g.S.Read.remaining (g.P.InputParser.parsing c.args._parser.now) read stop c.args._before.now c.args._after.now c.args._old.now c.args._new.now inputs shared have has are
