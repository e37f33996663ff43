use Rattle.std.proofs.Common.{rules}
use Rattle.cdb_command.proofs.rules.asking.asked_on.Goals as goal

pub returns-in_err-letter : goal.returns-in_err-letter
returns-in_err-letter c = search rules
