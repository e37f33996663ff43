use Rattle.cdb_make.proofs.Words.{arith, gone_of, head_size, marks_in, places_in}
use Rattle.cdb_make.proofs.Spans.{spans_of}
use Rattle.cdb_make.proofs.Picking.{picked_within}
use Rattle.cdb_make.proofs.roll.Roll.left_end.Goals as goal

pub overflow_sub-result : goal.overflow_sub-result
overflow_sub-result g c =
    let m = c.args.self.now in
    let spans = spans_of (head_size g.L.Width.WORD) m.end (places_in m.places) m.spans in
    omega (arith, m.picked.size spans.sizes spans.of, picked_within spans.sizes (gone_of (marks_in m)) spans.of)

pub returns : goal.returns
returns g c =
    let m = c.args.self.now in
    let spans = spans_of (head_size g.L.Width.WORD) m.end (places_in m.places) m.spans in
    omega (arith, m.picked.size spans.sizes spans.of, picked_within spans.sizes (gone_of (marks_in m)) spans.of)
