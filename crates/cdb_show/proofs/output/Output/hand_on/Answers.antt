use Rattle.cdb_show.proofs.Words.{List, Option, Some, ap, drop, noted_by, output_bytes, passed_bytes, rules, writer_bytes, ℕ, ◌∙◌}
use Rattle.std.proofs.lemmas.List.{take_rest}
use Rattle.cdb_show.proofs.OutputLemmas.{marked_so, handed_on}
use Rattle.cdb_show.proofs.output.Output.hand_on.Goals as goal

pub loop-self-preserved : goal.loop-self-preserved
loop-self-preserved g c =
    let o = c.loop-self.self in
    let w = c.write_some-gone in
    let all = o.buffer.items in
    let n = c.in_ok-self.field-0 in
    let moved = λ (old w v : Option (List ℕ)). handed_on all _ o.start n old w v (take_rest c.deref.result.now o.start ∙ ap (drop o.start) c.deref.ensures.value) in
    record {
      kept = moved (output_bytes c.args.self.now) (writer_bytes o) (Some (noted_by w.new.self)) c.loop-self.invariant.kept (rw c.in_ok-self.was at w.ensures.ok);
      passed = moved (passed_bytes g.W.Write.contents c.args.self.now) (g.W.Write.contents o.writer.writer) (g.W.Write.contents w.new.self.writer) c.loop-self.invariant.passed (rw c.in_ok-self.was at w.ensures.passes);
      sound = search rules;
    }

pub invariant_of-self-in-loop-self-clause-marked : goal.invariant_of-self-in-loop-self-clause-marked
invariant_of-self-in-loop-self-clause-marked g c =
    marked_so _ _ c.write_some-gone.result c.is_err.ensures.value c.loop-self.self.marked c.write_some-gone.ensures.stays c.write_some-gone.ensures.failed
