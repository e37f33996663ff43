use Rattle.cdb_system.proofs.Words.{AreUnread, OpensEach, map, string_bytes, take}
use Rattle.cdb_system.proofs.inputs.open_each.Given as goal

-- the inputs so far were opened
abbrev pub invariant-loop-name : goal.invariant-loop-name
invariant-loop-name g l =
    OpensEach g.Y.System (map string_bytes (take l.name-index l.names)) l.readers.items (g.Y.System.calls l.fn.system) (g.Y.System.calls l.system)
    × AreUnread g.Y.Stream.Feeds.feed l.readers.items
