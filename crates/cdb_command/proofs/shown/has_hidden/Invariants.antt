use Rattle.std.proofs.Common.{◌≡◌, IsUtf8}
use Rattle.cdb_command.specs.Refused.{has_hidden}
use Rattle.cdb_command.proofs.shown.has_hidden.Given as goal

-- what was met so far is not hidden
abbrev pub invariant-loop-character : goal.invariant-loop-character
invariant-loop-character l = IsUtf8 l.character-iterator.rest.now
    × (has_hidden l.character-iterator.rest.now ≡ has_hidden l.fn.text)
