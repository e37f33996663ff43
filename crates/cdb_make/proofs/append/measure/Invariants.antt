use Rattle.cdb_make.proofs.Words.{AreFirst, length, records_at, take, whole_size, ◌+◌, ◌-◌, ◌≡◌, ◌≤◌}
use Rattle.std.specs.Prelude.{sum_by}
use Rattle.cdb_make.proofs.append.measure.Given as goal

-- the records that fit so far
abbrev pub invariant-loop-next : goal.invariant-loop-next
invariant-loop-next g l = record {
  first : AreFirst g.L.Width.WORD l.bytes l.count l.place;
  room : sum_by (whole_size g.L.Width.WORD) (take l.count (records_at g.L.Width.WORD l.bytes)) + l.left ≡ l.room;
  below : l.count ≤ l.place;
}

abbrev pub decreases-loop-next : goal.decreases-loop-next
decreases-loop-next g l = length l.bytes - l.place
