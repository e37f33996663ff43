use Rattle.cdb_form.specs.Views.Pairs.{key_values}
use Rattle.cdb_form.proofs.MapTexts.MapLines.{map_reads_back}
use Rattle.cdb_form.proofs.laws.map_reads_back.Goals as goal

pub returns : goal.returns
returns c = λ words. map_reads_back (key_values c.args._records.now) words
