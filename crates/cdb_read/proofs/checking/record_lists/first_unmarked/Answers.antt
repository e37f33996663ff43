use Rattle.std.proofs.Common.{◌+◌, sym, subst, arith}
use Rattle.cdb_read.proofs.Checks.Earliest.{IsFirstOf, first_none, first_more, first_all}
use Rattle.cdb_read.proofs.checking.record_lists.first_unmarked.Goals as goal

pub loop-list-init : goal.loop-list-init
loop-list-init c = first_none c.args.lists.now

pub loop-list-preserved : goal.loop-list-preserved
loop-list-preserved c =
    let i = c.loop-list.list-index in
    subst (IsFirstOf c.args.lists.now (i + 1)) (sym c.earlier-first.ensures)
    (first_more c.args.lists.now i c.list-item.result c.loop-list.first c.first_unmarked.result (omega arith) c.list-item.is c.loop-list.invariant c.first_unmarked.ensures)

pub returns : goal.returns
returns c = λ es slots m. first_all c.args.lists.now c.loop-list.list-index c.loop-list.first es slots m (omega arith) c.loop-list.invariant
