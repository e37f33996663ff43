use Rattle.cdb.proofs.Words.{false, map, string_bytes, take}
use Rattle.cdb.specs.Creating.{LooksFor, input_is}
use Rattle.cdb.proofs.placing.may_be_one_of.Given as goal

-- the inputs so far are other files
abbrev pub invariant-loop-input : goal.invariant-loop-input
invariant-loop-input g l = LooksFor (map (input_is l.name) (map string_bytes (take l.input-index l.inputs))) false (g.N.Names.calls l.fn.names) (g.N.Names.calls l.names)
