-- The letters of a command line.
use Rattle.std.specs.Prelude.{Bool, List, codes, nat_lt}
use Rattle.clap.specs.Walk.{Row, count_of}
use Rattle.cdb_command.specs.Line.{Text}
use Rattle.cdb_command.specs.declared.letters.Flags.{Flags}

-- those without a value: the commands', and then their options'
abbrev pub flag_letters : Text
flag_letters = codes "qdlsckDhVmWweruiv"

-- those with a value
abbrev pub value_letters : Text
value_letters = codes "ntb"

-- which of the letters without a value are among what was found
abbrev pub has : Text → List Row → Bool
has id rows = nat_lt 0 (count_of id rows)

abbrev pub flags_of : List Row → Flags
flags_of rows = record {
  query = has (codes "q") rows;
  dump = has (codes "d") rows;
  list = has (codes "l") rows;
  stats = has (codes "s") rows;
  create = has (codes "c") rows;
  check = has (codes "k") rows;
  difference = has (codes "D") rows;
  help = has (codes "h") rows;
  version = has (codes "V") rows;
  map = has (codes "m") rows;
  inputs = has (codes "i") rows;
  wide = has (codes "W") rows;
  warn = has (codes "w") rows;
  stop = has (codes "e") rows;
  replace = has (codes "r") rows;
  insert = has (codes "u") rows;
}
