use Rattle.cdb_show.proofs.Words.{Some, arith, noted_by, output_bytes, passed_bytes, writer_bytes}
use Rattle.cdb_show.proofs.OutputLemmas.{marked_so, some_passed_on}
use Rattle.cdb_show.proofs.output.Output.pass_on.Goals as goal

pub returns-clause-ok : goal.returns-clause-ok
returns-clause-ok g c =
    let o = c.hand_on.new.self in
    some_passed_on c.write_some-gone.result o.buffer.items c.args.bytes.now c.min-most.result o.start (output_bytes c.args.self.now) (writer_bytes o) (Some (noted_by c.write_some-gone.new.self)) (omega (arith, c.in_ok-hand_on.ensures.empty, o.buffer.ok.0)) c.hand_on.ensures.bytes c.write_some-gone.ensures.count c.write_some-gone.ensures.ok

pub returns-clause-passes : goal.returns-clause-passes
returns-clause-passes g c =
    let o = c.hand_on.new.self in
    let holds = g.W.Write.contents in
    some_passed_on c.write_some-gone.result o.buffer.items c.args.bytes.now c.min-most.result o.start (passed_bytes holds c.args.self.now) (holds o.writer.writer) (holds c.write_some-gone.new.self.writer) (omega (arith, c.in_ok-hand_on.ensures.empty, o.buffer.ok.0)) c.hand_on.ensures.passes c.write_some-gone.ensures.count c.write_some-gone.ensures.passes

pub invariant_of-self-clause-marked : goal.invariant_of-self-clause-marked
invariant_of-self-clause-marked g c =
    marked_so _ _ c.write_some-gone.result c.is_err.ensures.value c.hand_on.new.self.marked c.write_some-gone.ensures.stays c.write_some-gone.ensures.failed
