use Rattle.std.proofs.Common.{◌≡◌, ◌+◌, ◌-◌, ◌≤◌, length, drop}
use Rattle.cdb_read.proofs.Walked.AheadRecords.{all_size}
use Rattle.cdb_read.proofs.walking.whole_records.whole_len.Given as goal

abbrev pub invariant-loop-len : goal.invariant-loop-len
invariant-loop-len g l = record {
  within : l.done ≤ length l.bytes;
  so_far : all_size g.L.Width.WORD l.bytes ≡ l.done + all_size g.L.Width.WORD (drop l.done l.bytes);
}

abbrev pub decreases-loop-len : goal.decreases-loop-len
decreases-loop-len g l = length l.bytes - l.done
