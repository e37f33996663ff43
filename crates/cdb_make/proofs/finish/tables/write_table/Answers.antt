use Rattle.cdb_make.proofs.Words.{arith, gathered_in, length, rules, slots_within, ◌≡◌}
use Rattle.cdb_make.proofs.Slots.TableBytes.{nothing_written}
use Rattle.cdb_make.proofs.finish.tables.write_table.Goals as goal

pub returns-then-is_empty-clause-ok : goal.returns-then-is_empty-clause-ok
returns-then-is_empty-clause-ok g c = nothing_written g.L.Width.WORD c.args.place (gathered_in c.args.list.now) (g.S.Store.image c.args.store.now) (let none : length c.args.bytes.now ≡ 0 = search (rules, c.if-is_empty.ensures, c.if-is_empty.true) in
    let few = slots_within g.L.Width.WORD (length (gathered_in c.args.list.now)) g.met.L.Width.four_or_eight in
    omega (arith, c.requires.bytes, none, few))
