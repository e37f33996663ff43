use Rattle.std.proofs.Common.{◌≡◌, ◌-◌, length}
use Rattle.cdb_form.specs.Views.LongValue.{AmidValue}
use Rattle.cdb_form_tests.proofs.tests.pieces.next_in_pieces.Given as goal

-- the pieces so far are the start of the value
abbrev pub invariant-loop-left : goal.invariant-loop-left
invariant-loop-left g l =
    record {
      amid : AmidValue g.L.Width.GREATEST g.F.Feeds.feed l.fn.text l.text l.into.key.items l.vlen l.into.value.items;
      left : l.left ≡ l.vlen - length l.into.value.items;
    }

abbrev pub decreases-loop-left : goal.decreases-loop-left
decreases-loop-left g l = l.left
