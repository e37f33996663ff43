use Rattle.std.proofs.Common.{length, take, ◌-◌, ◌≡◌, ◌≤◌}
use Rattle.cdb_form.proofs.copying.copy_past.Given as goal

-- the bytes so far are copied
abbrev pub invariant-loop-done : goal.invariant-loop-done
invariant-loop-done l =
    record {
      from : l.done ≤ length l.from;
      into : l.done ≤ length l.into;
      copied : take l.done l.into ≡ take l.done l.from;
    }

abbrev pub decreases-loop-done : goal.decreases-loop-done
decreases-loop-done l = l.len - l.done
