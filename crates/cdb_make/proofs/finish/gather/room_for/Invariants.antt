use Rattle.std.proofs.Common.{◌≡◌, ◌+◌, ◌*◌, ◌<◌, ◌≤◌, ℕ, length, get_or, vec_capacity}
use Rattle.cdb_make.specs.Tables.{rooms_of}
use Rattle.cdb_make.proofs.finish.gather.room_for.Given as goal

abbrev pub invariant-loop-n : goal.invariant-loop-n
invariant-loop-n g l = record {
  long : length l.gathered.items ≡ l.n;
  capacity : vec_capacity l.gathered ≡ 32;
  each : (group k : ℕ) → group < 8 → k < l.n → get_or l.counts (32 * group + k) 0 ≤ get_or (rooms_of l.gathered.items) k 0;
}
