use Rattle.std.proofs.Common.{rules}
use Rattle.cdb_form.proofs.header.write_header.Goals as goal

pub returns-clause-written : goal.returns-clause-written
returns-clause-written g c = search rules

pub returns-clause-read_back : goal.returns-clause-read_back
returns-clause-read_back g c = search rules
