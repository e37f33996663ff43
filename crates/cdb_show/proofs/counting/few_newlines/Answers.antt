use Rattle.std.proofs.Common.{◌==◌, arith, get_or}
use Rattle.cdb_show.proofs.LineCounts.{byte_small, newlines_few, newlines_more}
use Rattle.cdb_show.proofs.counting.few_newlines.Goals as goal

pub overflow_add-count : goal.overflow_add-count
overflow_add-count c =
    let few = newlines_few c.args.bytes.now c.loop-byte.byte-index (omega (arith, c.loop-byte-test.true)) in
    let small = byte_small (get_or c.args.bytes.now c.loop-byte.byte-index 0 == 10) in
    omega (arith, few, small, c.loop-byte.invariant, c.from-count.ensures, c.loop-byte-test.true, c.requires)

pub loop-byte-preserved : goal.loop-byte-preserved
loop-byte-preserved c =
    let more = newlines_more c.args.bytes.now c.loop-byte.byte-index c.loop-byte-test.true in
    omega (arith, more, c.loop-byte.invariant, c.from-count.ensures)
