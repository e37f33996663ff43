use Rattle.cdb_read.proofs.Words.{All, List, Marks, TableRecords, [], arith, subst, sym}
use Rattle.std.proofs.lemmas.List.Elements.{All-push}
use Rattle.cdb_read.proofs.Checks.ListMarks.{marks_nothing, lists_none}
use Rattle.cdb_read.proofs.checking.record_lists.no_lists.Goals as goal

pub loop-preserved : goal.loop-preserved
loop-preserved c =
    let inv = c.loop.invariant in
    record {
      many = omega (arith, inv.many, c.in_ok-push.ensures.len);
      none = subst (All (λ e. Marks e [] [])) (sym {A = List TableRecords} c.in_ok-push.ensures.items) (All-push (λ e. Marks e [] []) c.loop.lists.items c.new.result inv.none (marks_nothing c.new.result c.new.ensures.entries c.new.ensures.marks));
    }

pub returns : goal.returns
returns c = lists_none c.loop.lists.items (omega (arith, c.loop.invariant.many)) c.loop.invariant.none
