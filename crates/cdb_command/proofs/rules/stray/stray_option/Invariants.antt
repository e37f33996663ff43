use Rattle.std.proofs.Common.{◌≡◌, drop}
use Rattle.cdb_command.specs.Line.{given_in}
use Rattle.cdb_command.specs.Rules.{first_stray, options_in, taken_by, those_there}
use Rattle.cdb_command.proofs.rules.stray.stray_option.Given as goal

abbrev pub invariant-loop-is_there : goal.invariant-loop-is_there
invariant-loop-is_there l =
    first_stray (taken_by l.fn.letter (given_in l.fn.line)) (those_there (drop l.is_there-index l.is_there-items))
    ≡ first_stray (taken_by l.fn.letter (given_in l.fn.line)) (options_in (given_in l.fn.line))
