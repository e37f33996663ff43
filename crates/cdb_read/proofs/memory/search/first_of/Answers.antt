use Rattle.std.proofs.Common.{◌∙◌, refl}
use Rattle.cdb_form.specs.Views.Pairs.{pointer_pair}
use Rattle.cdb_read.proofs.MemoryBytes.{looked_up}
use Rattle.cdb_read.proofs.memory.search.first_of.Goals as goal

pub returns-clause-finds : goal.returns-clause-finds
returns-clause-finds g c = λ key is.
    c.first_probe.ensures.finds c.args.file.now key refl is
    ∙ looked_up g.L.Width.WORD c.args.file.now key (pointer_pair c.read_pointer-table.result) c.pair_size-size.ensures c.table_number-n.ensures.number is c.read_pointer-table.ensures.read
