use Rattle.std.proofs.Common.{◌≡◌, drop, map, string_bytes}
use Rattle.cdb_command.specs.BadWord.{first_bad, no_values}
use Rattle.cdb_command.proofs.bad_word.first_bad.Given as goal

abbrev pub invariant-loop-word : goal.invariant-loop-word
invariant-loop-word l =
    first_bad l.values (map string_bytes (drop l.word-index l.words)) ≡ first_bad no_values (map string_bytes l.fn.words)
