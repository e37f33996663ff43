use Rattle.std.proofs.Common.{rules}
use Rattle.cdb_files.proofs.examples.form.first_record.Goals as goal

pub returns : goal.returns
returns g c = search rules
