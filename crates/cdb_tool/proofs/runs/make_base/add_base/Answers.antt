use Rattle.cdb_tool.proofs.Words.{rules}
use Rattle.cdb_tool.proofs.BaseRecords.{unopened, unopened_reads}
use Rattle.cdb_tool.proofs.runs.make_base.add_base.Goals as goal

pub returns-in-Err-clause-fails : goal.returns-in-Err-clause-fails
returns-in-Err-clause-fails g c = λ none b i.
    let here : g.B.Store.image c.in-Err.unread.store b = search rules in
    rw c.from.ensures (unopened {s = g.S.Store} {l = g.L.Width} g.B.Store c.in-Some.base c.in-Err.unread.store c.args.maker.now c.in-Err.unread.fault g.met.L.Width.four_or_eight c.in-Err.ensures.fails (g.met.B.Store.image_size c.in-Err.unread.store) none b here)

pub returns-in-Err-clause-hands : goal.returns-in-Err-clause-hands
returns-in-Err-clause-hands g c = rw c.in-Some.is (unopened_reads g.L.Width.WORD g.B.Store c.in-Some.base c.in-Err.unread.store c.in-Err.unread.fault c.in-Err.ensures.fails)

pub returns-clause-fails : goal.returns-clause-fails
returns-clause-fails g c = λ none. rw c.into_store.ensures (c.add_records-added.ensures.fails none)
