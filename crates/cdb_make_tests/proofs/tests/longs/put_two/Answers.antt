use Rattle.std.proofs.Common.{[], arith, length-append, ◌++◌}
use Rattle.cdb_make_tests.proofs.tests.longs.put_two.Goals as goal

pub write_long-requires-clause-begun : goal.write_long-requires-clause-begun
write_long-requires-clause-begun g c = (_, _, _, _, rw c.in-Some.is at c.in_ok-long.ensures.begins)

pub write_long-requires-2-clause-room : goal.write_long-requires-2-clause-room
write_long-requires-2-clause-room g c =
    let begun = rw c.in-Some.is at c.in_ok-long.ensures.begins in
    let more = c.in_ok-write_long.ensures.ok _ _ _ _ begun in
    omega (arith, more.end, more.last, c.saturating_add-vlen.ensures)

pub write_long-requires-2-clause-begun : goal.write_long-requires-2-clause-begun
write_long-requires-2-clause-begun g c =
    let begun = rw c.in-Some.is at c.in_ok-long.ensures.begins in
    (_, _, _, _, c.in_ok-write_long.ensures.ok _ _ _ _ begun)

pub end_long-requires-clause-whole : goal.end_long-requires-clause-whole
end_long-requires-clause-whole g c =
    let begun = rw c.in-Some.is at c.in_ok-long.ensures.begins in
    let more = c.in_ok-write_long.ensures.ok _ _ _ _ begun in
    let all = c.in_ok-write_long-2.ensures.ok _ _ _ _ more in
    omega (arith, all.end, all.last, c.saturating_add-vlen.ensures, length-append ([] ++ c.args.first.now) c.args.second.now)

pub end_long-requires-clause-begun : goal.end_long-requires-clause-begun
end_long-requires-clause-begun g c =
    let begun = rw c.in-Some.is at c.in_ok-long.ensures.begins in
    let more = c.in_ok-write_long.ensures.ok _ _ _ _ begun in
    (_, _, _, _, c.in_ok-write_long-2.ensures.ok _ _ _ _ more)
