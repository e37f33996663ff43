-- What is said of a fault of a reader.
use Rattle.std.specs.Prelude.{ℕ, List, codes}
use Rattle.cdb_form.specs.declared.reading_whole.InFault.{InFault}
use Rattle.cdb_form.specs.declared.reading_whole.InFault.TheVariants.{Failed, NoMemory}

abbrev pub in_message : InFault → List ℕ
in_message Failed = codes "input cannot be read"
in_message NoMemory = codes "no memory"
