use Rattle.std.proofs.Common.{◌≡◌, ◌++◌, drop}
use Rattle.cdb_command.specs.Rules.{letters_in, only_letter, those_there}
use Rattle.cdb_command.proofs.Characters.{held}
use Rattle.cdb_command.proofs.rules.letter.only_letter.Given as goal

abbrev pub invariant-loop-is_there : goal.invariant-loop-is_there
invariant-loop-is_there l =
    only_letter (held l.only ++ those_there (drop l.is_there-index l.is_there-items)) ≡ only_letter (letters_in l.fn.flags)
