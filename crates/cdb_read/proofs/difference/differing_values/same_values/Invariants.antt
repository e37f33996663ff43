use Rattle.cdb_read.proofs.DifferenceWords.{List, LooksOn, left_in, length, slots_left, ℕ, ◌+◌, ◌≡◌, ◌≤◌}
use Rattle.cdb_read.proofs.ComparedValues.{Compared, SameDamage}
use Rattle.cdb_read.proofs.difference.differing_values.same_values.Given as goal

-- the values so far were the same
abbrev pub invariant-loop-with : goal.invariant-loop-with
invariant-loop-with g l =
    record {
      inside : l.value.place + l.value.len ≤ g.S.Store.size l.own.reader.now.store;
      mine : length l.mine ≡ length l.fn.mine;
      theirs : length l.theirs ≡ length l.fn.theirs;
      own : LooksOn l.fn.own l.own;
      own_damage : SameDamage g.L.Width.WORD l.fn.own l.own;
      other : LooksOn l.fn.other l.other;
      other_damage : SameDamage g.L.Width.WORD l.fn.other l.other;
      same : (b c : List ℕ) → g.S.Store.image l.own.reader.now.store b → g.T.Store.image l.other.reader.now.store c
          → Compared b c l.fn.first l.value (left_in g.L.Width.WORD b l.fn.own) (left_in g.L.Width.WORD b l.own) (left_in g.L.Width.WORD c l.fn.other) (left_in g.L.Width.WORD c l.other);
    }

abbrev pub decreases-loop-with : goal.decreases-loop-with
decreases-loop-with g l = slots_left l.other
