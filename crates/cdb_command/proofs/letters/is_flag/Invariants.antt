use Rattle.std.proofs.Common.{◌≡◌, ◌==◌, drop, map}
use Rattle.std.specs.List.{list_any}
use Rattle.cdb_command.specs.BadWord.{is_flag}
use Rattle.cdb_command.proofs.letters.is_flag.Given as goal

abbrev pub invariant-loop-flag : goal.invariant-loop-flag
invariant-loop-flag l =
    list_any (λ flag. flag == l.fn.letter) (map (λ p. p.1) (drop l.flag-index l.flag-items)) ≡ is_flag l.fn.letter
