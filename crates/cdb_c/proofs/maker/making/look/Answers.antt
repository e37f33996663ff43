use Rattle.cdb_c.proofs.Looks.{finds_key}
use Rattle.cdb_c.proofs.maker.making.look.Goals as goal

pub returns-clause-there : goal.returns-clause-there
returns-clause-there c =
    finds_key c.exists.result c.args.key.now c.args.making.now _ c.exists.ensures.there
