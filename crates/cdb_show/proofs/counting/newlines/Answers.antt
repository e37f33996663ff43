use Rattle.cdb_show.proofs.Words.{ap, arith, drop, length, newlines, take, ◌+◌, ◌-◌, ◌≡◌, ◌≤◌}
use Rattle.cdb_show.proofs.LineCounts.{newlines_behind}
use Rattle.cdb_show.proofs.counting.newlines.Goals as goal

pub loop-at-preserved : goal.loop-at-preserved
loop-at-preserved c =
    let bytes = c.args.bytes.now in
    let at = c.loop-at.at in
    let few = c.min-few.result in
    let before : c.loop-at.count ≡ newlines (take at bytes) = c.loop-at.invariant.counted in
    let behind = newlines_behind bytes at few in
    let end : (at + few) - at ≡ few = omega arith in
    let here = ap (λ n. newlines (take n (drop at bytes))) end in
    let sum : c.loop-at.count + c.from-count.result ≡ newlines (take (at + few) bytes) = omega (arith, before, behind, here, c.from-count.ensures, c.few_newlines.ensures) in
    let within : at + few ≤ length bytes = omega (arith, c.min-few.ensures, c.loop-at-test.true) in
    record { counted = sum; within = within }
