use Rattle.std.proofs.Common.{◌≡◌, IsUtf8, chars, drop}
use Rattle.cdb_command.specs.BadWord.{letters_met}
use Rattle.cdb_command.proofs.bad_word.letters_met.Given as goal

abbrev pub invariant-loop-letter : goal.invariant-loop-letter
invariant-loop-letter l = IsUtf8 l.letter-iterator.rest.now
    × (letters_met l.values (chars l.letter-iterator.rest.now) ≡ letters_met l.fn.values (drop 1 (chars l.fn.word)))
