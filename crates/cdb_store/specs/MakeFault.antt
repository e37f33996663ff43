-- The faults of a maker: their numbers and messages.
use Rattle.std.specs.Prelude.{ℕ, List, codes}
use Rattle.cdb_store.specs.declared.store.StoreFault.{StoreFault}
use Rattle.cdb_store.specs.declared.store.StoreFault.TheVariants.{Device}
use Rattle.cdb_store.specs.declared.store.StoreFault.TheVariants.{NoMemory as Refused}
use Rattle.cdb_store.specs.declared.make_fault.MakeFault.{MakeFault}
use Rattle.cdb_store.specs.declared.make_fault.MakeFault.TheVariants.{Broken, Lookup, TooBig, NoMemory}
use Rattle.cdb_store.specs.declared.make_fault.MakeFault.TheVariants.{Writing}

abbrev pub make_number : MakeFault → ℕ
make_number Broken = 1
make_number Lookup = 2
make_number TooBig = 3
make_number NoMemory = 4
make_number Writing = 5

abbrev pub make_message : MakeFault → List ℕ
make_message Broken = codes "database broken by an earlier fault"
make_message Lookup = codes "database cannot be read or written"
make_message TooBig = codes "database too large"
make_message NoMemory = codes "no memory"
make_message Writing = codes "database cannot be read or written"

-- what a fault of a store is to a maker that writes
abbrev pub fault_of : StoreFault → MakeFault
fault_of Device = Writing
fault_of Refused = NoMemory
