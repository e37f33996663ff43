use Rattle.std.proofs.Common.{◌≤◌, arith}
use Rattle.cdb_form.specs.Format.{head_size}
use Rattle.cdb_read.proofs.Probing.Headers.{no_room, other_length, other_key, same_key}
use Rattle.cdb_read.proofs.MemoryBytes.{header_here, tells_not, tells_so}
use Rattle.cdb_read.proofs.memory.meeting.look_at.Goals as goal

pub returns-in_default-clause-looks : goal.returns-in_default-clause-looks
returns-in_default-clause-looks g c =
    let h = header_here c.args.file.now c.read_header-header.result c.pair_size-header_size.ensures (c.has_bytes.ensures.0 c.if-not-has_bytes.false) c.read_header-header.ensures.read in
    no_room c.args.key.now h c.in_default.ensures

pub returns-then-record-key-clause-looks : goal.returns-then-record-key-clause-looks
returns-then-record-key-clause-looks g c =
    let h = header_here c.args.file.now c.read_header-header.result c.pair_size-header_size.ensures (c.has_bytes.ensures.0 c.if-not-has_bytes.false) c.read_header-header.ensures.read in
    let low : head_size g.L.Width.WORD ≤ c.args.place = omega (arith, c.head_size.ensures, c.if-place-head_size.false) in
    other_length c.args.key.now h low c.in-Some.ensures c.if-record-key.true

pub returns-then-ne-clause-looks : goal.returns-then-ne-clause-looks
returns-then-ne-clause-looks g c =
    let h = header_here c.args.file.now c.read_header-header.result c.pair_size-header_size.ensures (c.has_bytes.ensures.0 c.if-not-has_bytes.false) c.read_header-header.ensures.read in
    let low : head_size g.L.Width.WORD ≤ c.args.place = omega (arith, c.head_size.ensures, c.if-place-head_size.false) in
    other_key c.args.key.now h low c.in-Some.ensures c.if-record-key.false (tells_not c.args.key.now c.args.file.now c.if-ne.ensures)

pub returns-clause-looks : goal.returns-clause-looks
returns-clause-looks g c =
    let h = header_here c.args.file.now c.read_header-header.result c.pair_size-header_size.ensures (c.has_bytes.ensures.0 c.if-not-has_bytes.false) c.read_header-header.ensures.read in
    let low : head_size g.L.Width.WORD ≤ c.args.place = omega (arith, c.head_size.ensures, c.if-place-head_size.false) in
    same_key c.args.key.now h low c.in-Some.ensures c.if-record-key.false (tells_so c.args.key.now c.args.file.now c.if-ne.ensures)
