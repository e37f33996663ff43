use Rattle.std.proofs.Common.{rules}
use Rattle.cdb_store.proofs.make_fault.MakeFault.number.Goals as goal

pub returns-in-TooBig : goal.returns-in-TooBig
returns-in-TooBig c = search rules
