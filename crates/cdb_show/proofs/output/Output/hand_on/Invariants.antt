use Rattle.cdb_show.proofs.Words.{Keeps, length, output_bytes, passed_bytes, ◌-◌, ◌≡◌}
use Rattle.cdb_show.proofs.output.Output.hand_on.Given as goal

-- no byte was lost so far, and the writer did not fail
abbrev pub invariant-loop-self : goal.invariant-loop-self
invariant-loop-self g l =
    record {
      kept : Keeps (output_bytes l.fn.self) (output_bytes l.self);
      passed : Keeps (passed_bytes g.W.Write.contents l.fn.self) (passed_bytes g.W.Write.contents l.self);
      sound : l.self.failed ≡ l.fn.self.failed;
    }

abbrev pub decreases-loop-self : goal.decreases-loop-self
decreases-loop-self g l = length l.self.buffer.items - l.self.start
