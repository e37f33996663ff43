use Rattle.std.proofs.Common.{arith}
use Rattle.cdb_form.proofs.MapTexts.MapReads.{line_at_hand}
use Rattle.cdb_form.proofs.text.source.Source.line_buffered.Goals as goal

pub returns-clause-reads : goal.returns-clause-reads
returns-clause-reads g c =
    let t = c.take_at_hand.ensures in
    let begins = rw c.at_hand.ensures at (c.in_ok-n.ensures (omega arith)) in
    line_at_hand _ _ _ _ _ _ begins t.takes t.taken t.asks
