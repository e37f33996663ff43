use Rattle.cdb_form.proofs.Words.{AreRuns, IsRun, drop, is_used, length, prefix_len, slots_in, ◌+◌, ◌-◌, ◌≡◌, ◌≤◌}
use Rattle.cdb_form.proofs.table.next_empty.Given as goal

-- the slots passed over are used, and the run from the next on is known
abbrev pub invariant-loop-run : goal.invariant-loop-run
invariant-loop-run g l =
    let slots = slots_in g.L.Width.WORD l.bytes in
    record {
      within : l.at ≤ length slots;
      long : length l.runs ≡ length slots;
      runs : AreRuns l.runs slots;
      run : IsRun l.at l.run slots;
      none : l.run ≡ 0 → prefix_len is_used (drop l.at slots) ≡ 0;
      passed : l.at + prefix_len is_used (drop l.at slots) ≡ l.from + prefix_len is_used (drop l.from slots);
    }

abbrev pub decreases-loop-run : goal.decreases-loop-run
decreases-loop-run g l = length (slots_in g.L.Width.WORD l.bytes) - l.at
