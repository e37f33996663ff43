use Rattle.cdb_read.proofs.Words.{ImagesHold, arith, header_pair, inl, inr, length, sym, ℕ, ◌*◌, ◌+◌, ◌∙◌, ◌≡◌}
use Rattle.cdb_read.proofs.Bytes.Windows.{holds_shown}
use Rattle.cdb_read.proofs.Probing.Headers.{passes}
use Rattle.cdb_read.proofs.Probing.Pairs.{HeaderTells, header_tells, least_below, no_header, spans_stand, spans_within}
use Rattle.cdb_read.proofs.walking.record_at.record_at.Goals as goal

pub returns-then-not-has_bytes-clause-stands : goal.returns-then-not-has_bytes-clause-stands
returns-then-not-has_bytes-clause-stands g c =
    let w = g.L.Width.WORD in
    let q = passes c.has_bytes.result (c.args.rest.place + c.pair_size-header_size.result) c.min-limit.result c.has_bytes.ensures c.if-not-has_bytes.true in
    no_header (elim g.met.L.Width.four_or_eight [ inl a ↦ omega arith | inr b ↦ omega arith ]) c.requires.before
    (least_below c.len.result c.args.rest.end c.min-limit.result (c.args.rest.place + 2 * w) c.min-limit.ensures (omega (arith, q, c.pair_size-header_size.ensures)))
    (λ b is. g.met.S.Store.image_size c.args.store.now b is ∙ sym c.len.ensures)

pub returns-clause-stands : goal.returns-clause-stands
returns-clause-stands g c =
    let w = g.L.Width.WORD in
    let n : ℕ = c.len.result in
    let held : ImagesHold c.args.rest.place c.shown.result.now (g.S.Store.image c.cover.new.store) = holds_shown c.in_ok-cover.ensures.shows c.in_ok-cover.ensures.covers c.shown.ensures.is c.shown.ensures.long in
    let l : length c.shown.result.now ≡ 2 * w = c.shown.ensures.long ∙ c.pair_size-header_size.ensures in
    let header : HeaderTells w c.args.rest.place n (header_pair c.read_header-header.result) (g.S.Store.image c.cover.new.store) =
    header_tells c.read_header-header.result l c.read_header-header.ensures.read held (λ b is. g.met.S.Store.image_size c.cover.new.store b is ∙ c.cover.ensures.reads.size ∙ sym c.len.ensures) in
    let room = c.has_bytes.ensures.0 c.if-not-has_bytes.false in
    spans_stand c.read_header-header.result c.spans.result (elim g.met.L.Width.four_or_eight [ inl a ↦ omega arith | inr b ↦ omega arith ])
    c.requires.before c.min-limit.ensures (omega (arith, room, c.pair_size-header_size.ensures)) c.spans.ensures header

pub returns-clause-within : goal.returns-clause-within
returns-clause-within g c = spans_within c.args.rest g.L.Width.WORD c.read_header-header.result c.spans.result c.min-limit.ensures (c.len.ensures ∙ sym c.cover.ensures.reads.size) c.spans.ensures
