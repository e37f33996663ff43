use Rattle.cdb_form.proofs.Words.{arith, err_from_is_err_and, inl, inr, record_size, rules, sym, ◌++◌, ◌+◌, ◌<◌, ◌∙◌, ◌≡◌, ◌≤◌}
use Rattle.cdb_form.proofs.Fed.FeedLemmas.{consumes_then}
use Rattle.cdb_form.proofs.Bytes.ReadBack.{same_words}
use Rattle.cdb_form.proofs.RecordReading.RecordReads.{prefix_told, no_room, header_early, body_no_room, body_early, record_read, record_cut, loses_then, none_no_room, none_header, none_body_no_room, none_body}
use Rattle.cdb_form.proofs.walk.next_record.read_record.Goals.{then-left-header-via-then-left-header, then-left-header-via-else-left-header+then-left-header-2}
use Rattle.cdb_form.proofs.walk.next_record.read_record.Goals as goal

pub returns-then-left-size-clause-fails : goal.returns-then-left-size-clause-fails
returns-then-left-size-clause-fails g c = λ damage. no_room g.L.Width.WORD c.args.area.place c.args.area.end (g.R.Feeds.feed c.args.reader.now) c.requires (omega (arith, c.pair_size-size.ensures, c.if-left-size.true))

pub returns-in_err-header-clause-fails : goal.returns-in_err-header-clause-fails
returns-in_err-header-clause-fails g c =
    let p = err_from_is_err_and c.from_residual.result c.from_residual.ensures.1 in
    rw (p.1, p.2) (λ damage.
    let h = c.in_err-header.ensures.fails damage in
    header_early g.L.Width.WORD c.args.area.place c.args.area.end _ _ c.in_err-header.field-0.0 c.requires h.0 h.1.few)

pub returns-then-left-header-clause-fails : goal.returns-then-left-header-clause-fails
returns-then-left-header-clause-fails g c = λ damage.
    let r = c.in_ok-header.ensures.read in
    let told = prefix_told g.L.Width.WORD r.bytes c.in_ok-header.header r.lengths in
    body_no_room g.L.Width.WORD c.args.area.place c.args.area.end _ _ r.bytes c.requires r.read r.long (omega (arith, c.pair_size-size.ensures, c.if-left-size.false))
    (elim c.then-left-header.branch [
      | then-left-header-via-then-left-header w ↦ omega (arith, told, c.pair_size-size.ensures, w.if-left-header.true)
      | then-left-header-via-else-left-header+then-left-header-2 w ↦ omega (arith, told, c.pair_size-size.ensures, w.if-left-header.false, w.if-left-header-2.true)
    ])

pub returns-in_err-record_body-clause-fails : goal.returns-in_err-record_body-clause-fails
returns-in_err-record_body-clause-fails g c =
    let p = err_from_is_err_and c.from_residual-in_err-record_body.result c.from_residual-in_err-record_body.ensures.1 in
    let r = c.in_ok-header.ensures.read in
    let told = prefix_told g.L.Width.WORD r.bytes c.in_ok-header.header r.lengths in
    rw (p.1, p.2) (λ damage.
    let h = c.in_err-record_body.ensures.fails damage in
    body_early g.L.Width.WORD c.args.area.place c.args.area.end (c.in_ok-header.header.klen + c.in_ok-header.header.vlen) _ _ _ r.bytes c.in_err-record_body.field-0.0 c.requires h.0 r.read r.long
    (omega (arith, c.pair_size-size.ensures, c.if-left-size.false)) (omega (arith, told)) h.1.few)

pub returns-in_err-record_body-clause-loses : goal.returns-in_err-record_body-clause-loses
returns-in_err-record_body-clause-loses g c =
    let r = c.in_ok-header.ensures.read in
    loses_then _ _ _ r.bytes (c.in_ok-header.header.klen + c.in_ok-header.header.vlen) _ r.read c.in_err-record_body.ensures.loses
    (omega (arith, r.long, c.pair_size-size.ensures, c.if-left-size.false, c.if-left-header.false, c.if-left-header-2.false))

pub returns-clause-loses : goal.returns-clause-loses
returns-clause-loses g c =
    let r = c.in_ok-header.ensures.read in
    loses_then _ _ _ r.bytes (c.in_ok-header.header.klen + c.in_ok-header.header.vlen) _ r.read c.in_ok-record_body.ensures.loses
    (omega (arith, r.long, c.pair_size-size.ensures, c.if-left-size.false, c.if-left-header.false, c.if-left-header-2.false))

pub returns-clause-record : goal.returns-clause-record
returns-clause-record g c =
    let w = g.L.Width.WORD in
    let area = c.args.area in
    let h = c.in_ok-header.header in
    let r = c.in_ok-header.ensures.read in
    let body = c.in_ok-record_body.ensures.read in
    let b = body.2 in
    let read = consumes_then _ _ _ r.bytes (body.0.key ++ body.0.value) r.read b.read in
    let some : 0 < w = elim g.met.L.Width.four_or_eight [ inl a ↦ omega arith | inr b ↦ omega arith ] in
    let lengths = sym r.lengths ∙ same_words _ _ (sym b.klen) (sym b.vlen) in
    let next = area.place + c.pair_size-size.result + h.klen + h.vlen in
    let size : next ≡ area.place + record_size w body.0 = omega (arith, c.pair_size-size.ensures, b.klen, b.vlen) in
    let room : next ≤ area.end = omega (arith, c.pair_size-size.ensures, c.if-left-size.false, c.if-left-header.false, c.if-left-header-2.false) in (
      body.0,
      body.1,
      size,
      record_read w area.place area.end _ _ _ r.bytes body.0 some read r.long lengths size room,
      record_cut w area.place area.end _ _ _ r.bytes body.0 some read r.long lengths size room,
    )

pub returns-then-left-header-clause-loses : goal.returns-then-left-header-clause-loses
returns-then-left-header-clause-loses g c = search rules

pub returns-then-left-size-clause-part : goal.returns-then-left-size-clause-part
returns-then-left-size-clause-part g c = none_no_room g.L.Width.WORD c.args.area.place c.args.area.end (g.R.Feeds.feed c.args.reader.now) c.requires (omega (arith, c.pair_size-size.ensures, c.if-left-size.true))

pub returns-in_err-header-clause-part : goal.returns-in_err-header-clause-part
returns-in_err-header-clause-part g c =
    let p = err_from_is_err_and c.from_residual.result c.from_residual.ensures.1 in
    rw (p.1) (none_header g.L.Width.WORD c.args.area.place c.args.area.end _ _ c.requires c.in_err-header.ensures.loses_fewer)

pub returns-then-left-header-clause-part : goal.returns-then-left-header-clause-part
returns-then-left-header-clause-part g c =
    let r = c.in_ok-header.ensures.read in
    let told = prefix_told g.L.Width.WORD r.bytes c.in_ok-header.header r.lengths in
    none_body_no_room g.L.Width.WORD c.args.area.place c.args.area.end _ _ r.bytes c.requires r.read r.long (omega (arith, c.pair_size-size.ensures, c.if-left-size.false))
    (elim c.then-left-header.branch [
      | then-left-header-via-then-left-header w ↦ omega (arith, told, c.pair_size-size.ensures, w.if-left-header.true)
      | then-left-header-via-else-left-header+then-left-header-2 w ↦ omega (arith, told, c.pair_size-size.ensures, w.if-left-header.false, w.if-left-header-2.true)
    ])

pub returns-in_err-record_body-clause-part : goal.returns-in_err-record_body-clause-part
returns-in_err-record_body-clause-part g c =
    let p = err_from_is_err_and c.from_residual-in_err-record_body.result c.from_residual-in_err-record_body.ensures.1 in
    let r = c.in_ok-header.ensures.read in
    let told = prefix_told g.L.Width.WORD r.bytes c.in_ok-header.header r.lengths in
    rw (p.1) (none_body g.L.Width.WORD c.args.area.place c.args.area.end (c.in_ok-header.header.klen + c.in_ok-header.header.vlen) _ _ _ r.bytes c.requires r.read
    c.in_err-record_body.ensures.loses_fewer r.long (omega (arith, c.pair_size-size.ensures, c.if-left-size.false)) (omega (arith, told)))

pub returns-clause-fails : goal.returns-clause-fails
returns-clause-fails g c = omega arith
