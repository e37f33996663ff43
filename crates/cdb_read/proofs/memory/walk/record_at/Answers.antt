use Rattle.std.proofs.Common.{◌+◌, ◌*◌, ℕ, length, inl, inr, arith}
use Rattle.cdb_read.proofs.Probing.Headers.{passes}
use Rattle.cdb_read.proofs.Probing.Pairs.{least_below}
use Rattle.cdb_read.proofs.MemoryRecords.{no_header_here, spans_here}
use Rattle.cdb_read.proofs.memory.walk.record_at.Goals as goal

pub returns-then-not-has_bytes : goal.returns-then-not-has_bytes
returns-then-not-has_bytes g c =
    let w = g.L.Width.WORD in
    let n : ℕ = length c.args.file.now in
    let q = passes c.has_bytes.result (c.args.place + c.pair_size-header_size.result) c.min-limit.result c.has_bytes.ensures c.if-not-has_bytes.true in
    no_header_here w c.args.file.now (elim g.met.L.Width.four_or_eight [ inl a ↦ omega arith | inr b ↦ omega arith ]) c.requires
    (least_below n c.args.end c.min-limit.result (c.args.place + 2 * w) c.min-limit.ensures (omega (arith, q, c.pair_size-header_size.ensures)))

pub returns : goal.returns
returns g c =
    let w = g.L.Width.WORD in
    let room = c.has_bytes.ensures.0 c.if-not-has_bytes.false in
    spans_here w c.args.file.now c.read_header-header.result c.spans.result (elim g.met.L.Width.four_or_eight [ inl a ↦ omega arith | inr b ↦ omega arith ])
    c.pair_size-header_size.ensures c.requires c.min-limit.ensures (omega (arith, room, c.pair_size-header_size.ensures)) c.spans.ensures c.read_header-header.ensures.read
