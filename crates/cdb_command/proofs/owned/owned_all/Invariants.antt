use Rattle.std.proofs.Common.{◌≡◌, map, string_bytes, take}
use Rattle.cdb_command.proofs.owned.owned_all.Given as goal

abbrev pub invariant-loop-text : goal.invariant-loop-text
invariant-loop-text l = map string_bytes l.texts.items ≡ map (λ s. s.now) (take l.text-index l.from)
