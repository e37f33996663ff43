use Rattle.std.proofs.Common.{sym, arith}
use Rattle.std.proofs.lemmas.List.{length-take-le, take_all}
use Rattle.cdb_show.proofs.key_line.shown_part.Goals as goal

pub slice_bounds-result-end : goal.slice_bounds-result-end
slice_bounds-result-end c = sym (length-take-le 256 c.args.key.now (omega arith))

pub returns-else-key-gt-SHOWN : goal.returns-else-key-gt-SHOWN
returns-else-key-gt-SHOWN c = sym (take_all 256 c.args.key.now (omega arith))
