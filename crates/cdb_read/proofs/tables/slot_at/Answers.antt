use Rattle.cdb_read.proofs.Words.{ImagesHold, ap, drop, length, pair_at, slot_pair, sym, ℕ, ◌*◌, ◌+◌, ◌∙◌, ◌≡◌}
use Rattle.cdb_read.proofs.Probing.Headers.{pair_read}
use Rattle.cdb_read.proofs.Bytes.Windows.{holds_shown}
use Rattle.cdb_read.proofs.tables.slot_at.Goals as goal

pub returns-clause-read : goal.returns-clause-read
returns-clause-read g c = λ b is.
    let w = g.L.Width.WORD in
    let place : ℕ = c.args.table.place + c.pair_size-slot_size.result * c.args.n in
    let held : ImagesHold place c.shown.result.now (g.S.Store.image c.cover.new.store) = holds_shown c.in_ok-cover.ensures.shows c.in_ok-cover.ensures.covers c.shown.ensures.is c.shown.ensures.long in
    let l : length c.shown.result.now ≡ 2 * w = c.shown.ensures.long ∙ c.pair_size-slot_size.ensures in
    sym (pair_read w place (slot_pair c.read_slot.result) l c.read_slot.ensures.read held b is)
    ∙ ap (λ k. pair_at w (drop (c.args.table.place + k * c.args.n) b)) c.pair_size-slot_size.ensures
