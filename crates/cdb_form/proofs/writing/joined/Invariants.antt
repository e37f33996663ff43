use Rattle.std.proofs.Common.{◌≡◌, ◌≤◌, flat_map, length, take}
use Rattle.cdb_form.proofs.writing.joined.Given as goal

-- the pieces so far are joined
abbrev pub invariant-loop-piece : goal.invariant-loop-piece
invariant-loop-piece l =
    record {
      within : l.end ≤ length l.line;
      joined : take l.end l.line ≡ flat_map (λ p. p.now) (take l.piece-index l.pieces);
    }
