use Rattle.cdb_make.proofs.Words.{AreOf, List, get_or, gone_of, left, length, take, ℕ, ◌≡◌, ◌≤◌}
use Rattle.cdb_make.specs.Views.Places.{places_in, places_room}
use Rattle.cdb_make.proofs.compact.compact_entries.Given as goal

abbrev pub invariant-loop-n : goal.invariant-loop-n
invariant-loop-n g l = record {
  behind : l.count ≤ l.n;
  room : places_room l.places ≡ places_room l.fn.places;
  past : l.first ≤ l.count;
  long : length (places_in l.places) ≡ length (places_in l.fn.places);
  paired : length l.hashes ≡ length l.fn.hashes;
  up : l.to ≤ get_or (places_in l.fn.places) l.n l.end;
  later : (k : ℕ) → l.n ≤ k → get_or (places_in l.places) k l.end ≡ get_or (places_in l.fn.places) k l.end;
  later_hashes : (k : ℕ) → l.n ≤ k → get_or l.hashes k 0 ≡ get_or l.fn.hashes k 0;
  hashes : take l.count l.hashes ≡ left (take l.n (gone_of l.marks)) (take l.n l.fn.hashes);
  of : (sizes : List ℕ) → AreOf l.start (places_in l.fn.places) l.end sizes
      → AreOf l.start (take l.count (places_in l.places)) l.to (left (take l.n (gone_of l.marks)) (take l.n sizes));
}
