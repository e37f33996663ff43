use Rattle.std.proofs.Common.{◌≡◌, ◌≤◌, length}
use Rattle.cdb_form.specs.Format.{key_hash}
use Rattle.cdb_read.specs.Views.Search.{ProbeInside}
use Rattle.cdb_read.proofs.Probing.Searches.{SameAhead}
use Rattle.cdb_read.proofs.memory.meeting.meet.Given as goal

abbrev pub invariant-loop-probe : goal.invariant-loop-probe
invariant-loop-probe g l = record {
  inside : ProbeInside g.L.Width.WORD (length l.file) l.probe;
  fewer : l.probe.left ≤ l.fn.from.left;
  same : l.hash ≡ key_hash l.key → SameAhead g.L.Width.WORD l.key l.fn.from l.probe (λ b. b ≡ l.file);
}

abbrev pub decreases-loop-probe : goal.decreases-loop-probe
decreases-loop-probe g l = l.probe.left
