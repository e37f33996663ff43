use Rattle.cdb_read.proofs.Words.{ap, entry_pairs, length, pair_size, pointer_pair, rules, slots_in, slots_of, ℕ, ◌*◌, ◌∙◌, ◌≡◌}
use Rattle.cdb_read.proofs.Checks.FilledChecks.{filled_there}
use Rattle.cdb_read.proofs.checking.filled_table.is_filled.Goals as goal

pub returns-in-Ok-clause-filled : goal.returns-in-Ok-clause-filled
returns-in-Ok-clause-filled g c =
    let w : ℕ = g.L.Width.WORD in
    let e = c.args.entries.now in
    let made = c.in-Ok.ensures in
    let long : length c.deref.result.now ≡ pair_size w * c.args.table.slots = ap length c.deref.ensures.value ∙ made.long in
    let filled : slots_in w c.deref.result.now ≡ slots_of (entry_pairs e) = ap (slots_in w) c.deref.ensures.value ∙ made.filled in
    filled_there w c.args.n g.L.Width.TOP (pointer_pair c.args.table) e c.deref.result.now (g.S.Store.image c.bytes_are_at.new.store) c.bytes_are_at.result g.met.L.Width.four_or_eight (search rules) long filled c.bytes_are_at.ensures.same
