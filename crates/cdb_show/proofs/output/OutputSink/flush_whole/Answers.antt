use Rattle.cdb_show.proofs.Words.{arith, passed_bytes}
use Rattle.cdb_show.proofs.OutputLemmas.{marked_so, none_held}
use Rattle.cdb_show.proofs.output.OutputSink.flush_whole.Goals as goal

pub returns-clause-passed : goal.returns-clause-passed
returns-clause-passed g c =
    let o = c.hand_on-handed.new.self in
    let holds = g.W.Write.contents in
    none_held c.flush_whole-flushed.result o.buffer.items o.start (passed_bytes holds c.args.self.now) (holds o.writer.writer) (holds c.flush_whole-flushed.new.self.writer) (omega (arith, c.in_ok-handed.ensures.empty, o.buffer.ok.0)) c.hand_on-handed.ensures.passes c.flush_whole-flushed.ensures.passes

pub invariant_of-self-clause-marked : goal.invariant_of-self-clause-marked
invariant_of-self-clause-marked g c =
    marked_so _ _ c.flush_whole-flushed.result c.is_err.ensures.value c.hand_on-handed.new.self.marked c.flush_whole-flushed.ensures.stays c.flush_whole-flushed.ensures.failed
