use Rattle.std.proofs.Common.{◌≡◌, drop, map, string_bytes}
use Rattle.cdb_command.specs.Refused.{some_has}
use Rattle.cdb_command.proofs.explained.some_has.Given as goal

abbrev pub invariant-loop-word : goal.invariant-loop-word
invariant-loop-word l =
    some_has l.sought (map string_bytes (drop l.word-index l.words)) ≡ some_has l.sought (map string_bytes l.words)
