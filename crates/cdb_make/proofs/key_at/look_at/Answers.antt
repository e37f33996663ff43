use Rattle.cdb_make.proofs.Words.{AreSized, HasLengthsInImages, TellsSameInImages, arith, common_steps, false, length, rules, subst, true, ℕ, ◌*◌, ◌+◌, ◌<◌, ◌≡◌, ◌≤◌}
use Rattle.cdb_make.proofs.Bytes.Compare.{reads_fewer}
use Rattle.cdb_make.proofs.Bytes.Headers.{held_from, fewer_lengths, no_header, no_room, other_length, other_key, same_key}
use Rattle.cdb_make.proofs.key_at.look_at.Goals.{then-room-header-via-then-room-header, then-room-header-via-else-room-header+then-room-header-2, then-header-key-via-then-header-key, then-header-key-via-else-header-key+in_ok-key_follows+then-not-branch}
use Rattle.cdb_make.proofs.key_at.look_at.Goals as goal

pub returns-then-end-key_place-clause-looks : goal.returns-then-end-key_place-clause-looks
returns-then-end-key_place-clause-looks g c =
    no_header g.L.Width.WORD c.args.place c.args.end c.args.key.now _ (omega (arith, c.pair_size-header_size.ensures, c.saturating_add-key_place.ensures))

pub returns-then-room-header-clause-looks : goal.returns-then-room-header-clause-looks
returns-then-room-header-clause-looks g c =
    let k : ℕ = c.in_ok-header.header.klen in
    let v : ℕ = c.in_ok-header.header.vlen in
    let h : HasLengthsInImages g.L.Width.WORD c.args.place k v (g.S.Store.image c.read_prefix.new.store) = c.in_ok-header.ensures.lengths in
    let past : c.args.end < c.args.place + (2 * g.L.Width.WORD + k + v) =
    elim c.then-room-header.branch [
      | then-room-header-via-then-room-header w ↦ omega (arith, c.pair_size-header_size.ensures, c.saturating_add-key_place.ensures)
      | then-room-header-via-else-room-header+then-room-header-2 w ↦ omega (arith, c.pair_size-header_size.ensures, c.saturating_add-key_place.ensures)
    ] in
    no_room c.args.end c.args.key.now h past

pub returns-then-header-key-clause-looks : goal.returns-then-header-key-clause-looks
returns-then-header-key-clause-looks g c =
    let k : ℕ = c.in_ok-header.header.klen in
    let v : ℕ = c.in_ok-header.header.vlen in
    let h : HasLengthsInImages g.L.Width.WORD c.args.place k v (g.S.Store.image c.read_prefix.new.store) = c.in_ok-header.ensures.lengths in
    let at : c.saturating_add-key_place.result ≡ c.args.place + 2 * g.L.Width.WORD = omega (arith, c.pair_size-header_size.ensures, c.saturating_add-key_place.ensures) in
    let fits : c.args.place + (2 * g.L.Width.WORD + k + v) ≤ c.args.end = omega arith in
    elim c.then-header-key.branch [
      | then-header-key-via-then-header-key w ↦
          (let sized : AreSized (g.S.Store.size c.read_prefix.new.store) (g.S.Store.image c.read_prefix.new.store) = record { each = g.met.S.Store.image_size c.read_prefix.new.store } in
          rw w.store-is (other_length c.args.end c.args.key.now sized (omega (arith, c.read_prefix.ensures.reads.size)) h fits (λ same. omega (arith, w.if-header-key.true))))
      | then-header-key-via-else-header-key+in_ok-key_follows+then-not-branch w ↦
          (let same : k ≡ length c.args.key.now = omega (arith, w.if-header-key.false) in
          let no : w.in_ok-key_follows.field-0 ≡ false = search rules in
          let tells : TellsSameInImages false c.saturating_add-key_place.result c.args.key.now (g.S.Store.image w.key_follows.new.store) =
          subst (λ v. TellsSameInImages v c.saturating_add-key_place.result c.args.key.now (g.S.Store.image w.key_follows.new.store)) no (w.in_ok-key_follows.ensures.same (held_from g.L.Width.WORD c.pair_size-header_size.result c.args.place c.read_prefix.new.front c.pair_size-header_size.ensures at c.in_ok-header.ensures.held)) in
          rw w.store-is (other_key c.saturating_add-key_place.result c.args.end c.args.key.now at same (fewer_lengths (reads_fewer w.key_follows.ensures.reads) h) fits tells))
    ]

pub returns-clause-looks : goal.returns-clause-looks
returns-clause-looks g c =
    let k : ℕ = c.in_ok-header.header.klen in
    let v : ℕ = c.in_ok-header.header.vlen in
    let h : HasLengthsInImages g.L.Width.WORD c.args.place k v (g.S.Store.image c.read_prefix.new.store) = c.in_ok-header.ensures.lengths in
    let at : c.saturating_add-key_place.result ≡ c.args.place + 2 * g.L.Width.WORD = omega (arith, c.pair_size-header_size.ensures, c.saturating_add-key_place.ensures) in
    let fits : c.args.place + (2 * g.L.Width.WORD + k + v) ≤ c.args.end = omega arith in
    let same : k ≡ length c.args.key.now = omega (arith, c.if-header-key.false) in
    let yes : c.in_ok-key_follows.field-0 ≡ true = search rules in
    let tells : TellsSameInImages true c.saturating_add-key_place.result c.args.key.now (g.S.Store.image c.key_follows.new.store) =
    subst (λ v. TellsSameInImages v c.saturating_add-key_place.result c.args.key.now (g.S.Store.image c.key_follows.new.store)) yes (c.in_ok-key_follows.ensures.same (held_from g.L.Width.WORD c.pair_size-header_size.result c.args.place c.read_prefix.new.front c.pair_size-header_size.ensures at c.in_ok-header.ensures.held)) in
    same_key c.saturating_add-key_place.result c.args.end _ c.args.key.now at (omega (arith, c.pair_size-header_size.ensures)) same (fewer_lengths (reads_fewer c.key_follows.ensures.reads) h) fits tells

pub returns-then-header-key-clause-ok_failures : goal.returns-then-header-key-clause-ok_failures
returns-then-header-key-clause-ok_failures g c = grind (arith, common_steps)

pub returns-clause-reads : goal.returns-clause-reads
returns-clause-reads g c = grind (arith, common_steps)

pub slice_bounds-key_follows-count : goal.slice_bounds-key_follows-count
slice_bounds-key_follows-count g c = grind (arith, common_steps)

pub key_follows-requires-clause-all : goal.key_follows-requires-clause-all
key_follows-requires-clause-all g c = grind (arith, common_steps)

pub returns-then-header-key-clause-failed : goal.returns-then-header-key-clause-failed
returns-then-header-key-clause-failed g c = grind (arith, common_steps)

pub returns-then-header-key-clause-reads : goal.returns-then-header-key-clause-reads
returns-then-header-key-clause-reads g c = grind (arith, common_steps)

pub returns-clause-failed : goal.returns-clause-failed
returns-clause-failed g c = grind (arith, common_steps)

pub returns-clause-ok_failures : goal.returns-clause-ok_failures
returns-clause-ok_failures g c = grind (arith, common_steps)

pub slice_bounds-key_follows-start : goal.slice_bounds-key_follows-start
slice_bounds-key_follows-start g c = grind (arith, common_steps)

pub returns-clause-within : goal.returns-clause-within
returns-clause-within g c = grind (arith, common_steps)
