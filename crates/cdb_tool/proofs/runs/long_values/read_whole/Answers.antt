use Rattle.cdb_tool.proofs.Words.{arith}
use Rattle.cdb_tool.proofs.runs.long_values.read_whole.Goals as goal

pub read_value-requires-clause-amid : goal.read_value-requires-clause-amid
read_value-requires-clause-amid g c =
    let h = c.requires.left in
    (h.0.first, h.0.key, h.0.vlen, c.loop-items.value.items, c.loop-items.invariant.amid h.0 h.1 h.2, omega (arith, h.1, c.len-in-loop-items.ensures))

pub end_value-requires : goal.end_value-requires
end_value-requires g c =
    let h = c.requires.left in
    record { whole = (h.0.first, h.0.key, h.0.vlen, c.loop-items.value.items, c.loop-items.invariant.amid h.0 h.1 h.2, omega (arith, h.1, c.len.ensures, c.loop-items.invariant.within, c.loop-items-test.false)) }
