use Rattle.cdb_read.proofs.MarkBits.{none_set}
use Rattle.cdb_read.proofs.difference.marks.Marks.new.Goals as goal

pub returns : goal.returns
returns c = λ hash. none_set c.in_ok-vec.field-0.items hash (c.in_ok-vec.ensures.items_if_clones_equal (λ y is. is))
