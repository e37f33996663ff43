use Rattle.std.proofs.Common.{rules}
use Rattle.cdb_store.proofs.make_fault.MakeFaultFromStoreFault.from.Goals as goal

pub returns-in-Device : goal.returns-in-Device
returns-in-Device c = search rules
