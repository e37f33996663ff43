use Rattle.cdb_show.proofs.Words.{arith, length-take, writer_bytes}
use Rattle.cdb_show.proofs.OutputLemmas.{taken_in}
use Rattle.cdb_show.proofs.output.Output.take.Goals as goal

pub returns-clause-ok : goal.returns-clause-ok
returns-clause-ok g c =
    let o = c.args.self.now in
    let some = c.extend_from_slice.ensures.succeeds (omega (arith, length-take c.min-n.result c.args.bytes.now, c.min-n.ensures, c.len.ensures, o.least, o.room)) in
    taken_in c.extend_from_slice.result o.buffer.items _ _ _ o.start (writer_bytes o) (omega (arith, o.within, o.buffer.ok.0)) some c.extend_from_slice.ensures.items

pub returns-clause-passes : goal.returns-clause-passes
returns-clause-passes g c =
    let o = c.args.self.now in
    let some = c.extend_from_slice.ensures.succeeds (omega (arith, length-take c.min-n.result c.args.bytes.now, c.min-n.ensures, c.len.ensures, o.least, o.room)) in
    taken_in c.extend_from_slice.result o.buffer.items _ _ _ o.start (g.W.Write.contents o.writer.writer) (omega (arith, o.within, o.buffer.ok.0)) some c.extend_from_slice.ensures.items
