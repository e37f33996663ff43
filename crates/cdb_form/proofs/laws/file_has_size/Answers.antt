use Rattle.cdb_form.specs.Views.Pairs.{key_values}
use Rattle.cdb_form.proofs.Files.Sizes.{length-file_bytes}
use Rattle.cdb_form.proofs.laws.file_has_size.Goals as goal

pub returns : goal.returns
returns g c = length-file_bytes g.L.Width.WORD (key_values c.args._records.now)
