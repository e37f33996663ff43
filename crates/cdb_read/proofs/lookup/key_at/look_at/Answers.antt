use Rattle.cdb_read.proofs.Words.{TellsSame, arith, common_steps, false, head_size, rules, subst, sym, true, ◌∙◌, ◌≡◌, ◌≤◌}
use Rattle.cdb_read.proofs.Probing.Headers.{lengths_shown, fewer_lengths, no_room, other_length, other_key, same_key}
use Rattle.cdb_read.proofs.lookup.key_at.look_at.Goals.{then-record-key-via-then-record-key, then-record-key-via-else-record-key+in_ok-bytes_are_at+then-not-branch}
use Rattle.cdb_read.proofs.lookup.key_at.look_at.Goals as goal

pub returns-in_default-clause-looks : goal.returns-in_default-clause-looks
returns-in_default-clause-looks g c =
    let shows = c.in_ok-cover.ensures in
    let h = lengths_shown c.read_header-header.result shows.shows shows.covers c.shown.ensures.is c.shown.ensures.long c.pair_size-header_size.ensures c.read_header-header.ensures.read
    (λ b is. g.met.S.Store.image_size c.cover.new.store b is ∙ c.cover.ensures.reads.size ∙ sym c.len-size.ensures) in
    no_room c.args.key.now h c.in_default.ensures

pub returns-then-record-key-clause-looks : goal.returns-then-record-key-clause-looks
returns-then-record-key-clause-looks g c =
    let shows = c.in_ok-cover.ensures in
    let h = lengths_shown c.read_header-header.result shows.shows shows.covers c.shown.ensures.is c.shown.ensures.long c.pair_size-header_size.ensures c.read_header-header.ensures.read
    (λ b is. g.met.S.Store.image_size c.cover.new.store b is ∙ c.cover.ensures.reads.size ∙ sym c.len-size.ensures) in
    let low : head_size g.L.Width.WORD ≤ c.args.place = omega (arith, c.head_size.ensures, c.if-place-head_size.false) in
    elim c.then-record-key.branch [
      | then-record-key-via-then-record-key x ↦
          rw x.store-is (other_length c.args.key.now h low c.in-Some.ensures x.if-record-key.true)
      | then-record-key-via-else-record-key+in_ok-bytes_are_at+then-not-branch x ↦
          (let differ : x.in_ok-bytes_are_at.field-0 ≡ false = search rules in
          let tells : TellsSame false c.in-Some.record.key.place c.args.key.now (g.S.Store.image x.bytes_are_at.new.store) =
          subst (λ t. TellsSame t c.in-Some.record.key.place c.args.key.now (g.S.Store.image x.bytes_are_at.new.store)) differ x.in_ok-bytes_are_at.ensures.same in
          rw x.store-is (other_key c.args.key.now (fewer_lengths x.bytes_are_at.ensures.reads.images h) low c.in-Some.ensures x.if-record-key.false tells))
    ]

pub returns-clause-looks : goal.returns-clause-looks
returns-clause-looks g c =
    let shows = c.in_ok-cover.ensures in
    let h = lengths_shown c.read_header-header.result shows.shows shows.covers c.shown.ensures.is c.shown.ensures.long c.pair_size-header_size.ensures c.read_header-header.ensures.read
    (λ b is. g.met.S.Store.image_size c.cover.new.store b is ∙ c.cover.ensures.reads.size ∙ sym c.len-size.ensures) in
    let low : head_size g.L.Width.WORD ≤ c.args.place = omega (arith, c.head_size.ensures, c.if-place-head_size.false) in
    let agree : c.in_ok-bytes_are_at.field-0 ≡ true = search rules in
    let tells : TellsSame true c.in-Some.record.key.place c.args.key.now (g.S.Store.image c.bytes_are_at.new.store) =
    subst (λ t. TellsSame t c.in-Some.record.key.place c.args.key.now (g.S.Store.image c.bytes_are_at.new.store)) agree c.in_ok-bytes_are_at.ensures.same in
    same_key c.args.key.now (fewer_lengths c.bytes_are_at.ensures.reads.images h) low c.in-Some.ensures c.if-record-key.false tells

pub returns-then-record-key-clause-reads : goal.returns-then-record-key-clause-reads
returns-then-record-key-clause-reads g c = grind (arith, common_steps)

pub returns-clause-reads : goal.returns-clause-reads
returns-clause-reads g c = grind (arith, common_steps)

pub returns-clause-within : goal.returns-clause-within
returns-clause-within g c = grind (arith, common_steps)

pub spans-requires : goal.spans-requires
spans-requires g c = grind (arith, common_steps)
