use Rattle.cdb_form.specs.Views.Pairs.{key_values}
use Rattle.cdb_tool.proofs.BaseDifferences.{holds_all}
use Rattle.cdb_tool.proofs.laws.difference_amends_base.Goals as goal

pub returns : goal.returns
returns g c = λ mode room. holds_all g.L.Width.WORD c.args._options (key_values c.args._base.now) (key_values c.args._new.now) mode room
