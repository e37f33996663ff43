use Rattle.cdb_read.proofs.Words.{ap, table_number, ◌∙◌}
use Rattle.std.proofs.lemmas.Result.{on_ok_weaker}
use Rattle.cdb_read.proofs.Checks.ListMarks.{lists_more}
use Rattle.cdb_read.proofs.checking.record_lists.add_entry.Goals as goal

pub returns-clause-more : goal.returns-clause-more
returns-clause-more c = on_ok_weaker c.push.result (λ more.
    lists_more c.args.lists.now.items c.table_number.result c.index_mut.result.now c.push.new.self (record { first = c.args.hash; second = c.args.place }) c.requires
    (c.table_number.ensures.number ∙ ap table_number c.from.ensures) c.table_number.ensures.within c.index_mut.ensures.value more) c.push.ensures
