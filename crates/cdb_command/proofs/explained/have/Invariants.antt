use Rattle.std.proofs.Common.{◌≡◌, drop}
use Rattle.cdb_command.specs.Refused.{have}
use Rattle.cdb_command.proofs.explained.have.Given as goal

abbrev pub invariant-loop-letter : goal.invariant-loop-letter
invariant-loop-letter l = have l.sought (drop l.letter-index l.letters) ≡ have l.sought l.letters
