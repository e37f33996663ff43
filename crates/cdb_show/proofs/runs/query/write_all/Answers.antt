use Rattle.std.proofs.Common.{rules, ap}
use Rattle.cdb_show.proofs.Queries.{handed_back, queries_left}
use Rattle.cdb_show.proofs.runs.query.write_all.Goals as goal

pub returns-clause-queries : goal.returns-clause-queries
returns-clause-queries g c =
    let e = c.find.ensures in
    handed_back c.query_from.new.finder.reader.now.store _ (search rules)
    (queries_left {s = g.S.Store} {l = g.L.Width} _ _ _ c.args.reader.now.store c.find.result c.query_from.new.finder _ _ (ap (λ r. r.store) e.reader) e.finds c.args.reader.now.long c.query_from.ensures.reads _ c.query_from.ensures.ok c.query_from.ensures.fails)
