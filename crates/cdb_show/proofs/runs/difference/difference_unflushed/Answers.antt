use Rattle.cdb_show.proofs.Words.{OnlyReads, head_size, subst, sym, ◌≤◌}
use Rattle.cdb_show.proofs.DifferenceRuns.{new_unopened, old_unopened, tells_since}
use Rattle.cdb_show.proofs.runs.difference.difference_unflushed.Goals as goal

pub returns-in-Err-clause-tells : goal.returns-in-Err-clause-tells
returns-in-Err-clause-tells g c = rw c.of_old.ensures (old_unopened g.L.Width.WORD g.S.Store g.T.Store c.args.old c.in-Err.unread.store c.args.new _ c.in-Err.unread.fault c.in-Err.ensures.fails)

pub returns-in-Err-open-clause-tells : goal.returns-in-Err-open-clause-tells
returns-in-Err-open-clause-tells g c =
    rw c.of_new.ensures
    (new_unopened g.L.Width.WORD g.S.Store g.T.Store c.args.old c.into_store.result c.args.new c.in-Err-open.unread.store _ c.in-Err-open.unread.fault
    (subst (OnlyReads g.S.Store c.args.old) (sym c.into_store.ensures) c.in-Ok.ensures.reads)
    (subst (λ store. head_size g.L.Width.WORD ≤ g.S.Store.size store) (sym c.into_store.ensures) c.in-Ok.reader.long) c.in-Err-open.ensures.fails)

pub returns-clause-tells : goal.returns-clause-tells
returns-clause-tells g c =
    let first = c.in-Ok.reader in
    let second = c.in-Ok-open.reader in
    let left = c.write_opened-answer.new in
    rw (c.into_store-2.ensures, c.into_store-3.ensures)
    (tells_since g.L.Width.WORD g.S.Store g.T.Store c.args.old first.store left.old.store c.args.new second.store left.new.store (g.W.Sink.contents c.args.w.now) (g.W.Sink.contents left.w) c.in-Ok.ensures.reads c.in-Ok-open.ensures.reads first.long second.long c.write_opened-answer.result c.write_opened-answer.ensures.tells)
