use Rattle.cdb_make.proofs.Words.{Err, ap, on_ok_weaker, refl, ◌∙◌}
use Rattle.cdb_make.proofs.Finishing.{end_behind, is_file, finish_writes, head_from, finishing_fails, on_fault_is}
use Rattle.cdb_make.proofs.Rolls.{comes_part, on_ok_both}
use Rattle.cdb_make.proofs.maker.Maker.finish_store.Goals as goal

pub finish-requires-clause-start : goal.finish-requires-clause-start
finish-requires-clause-start g c = end_behind c.compact_for_finish.new.self.roll

pub returns-clause-file : goal.returns-clause-file
returns-clause-file g c = λ rs h. on_ok_weaker c.finish.result (λ finished. is_file c.args.self.now c.compact_for_finish.new.self rs c.in_ok-compact_for_finish.ensures.compacts_all h finished) c.finish.ensures.file

pub returns-clause-written : goal.returns-clause-written
returns-clause-written g c =
    on_ok_both c.finish.result (λ finished written. finish_writes c.args.self.now c.compact_for_finish.new.self c.finish.new.store c.in_ok-compact_for_finish.ensures.compacts_all c.compact_for_finish.ensures.counts finished written)
    c.finish.ensures.file c.finish.ensures.written

pub returns-clause-head_last : goal.returns-clause-head_last
returns-clause-head_last g c = head_from c.compact_for_finish.ensures.follows.head c.finish.ensures.head_last

pub returns-clause-comes : goal.returns-clause-comes
returns-clause-comes g c = record { each = λ b is. let p = (comes_part c.finish.ensures.kept).each b is in c.compact_for_finish.ensures.follows.comes.each p.0 p.1 }

pub returns-clause-fails : goal.returns-clause-fails
returns-clause-fails g c =
    let e = c.finish.ensures in
    let k = c.in_ok-compact_for_finish.ensures in
    on_fault_is c.finish.result
    (λ f is which. finishing_fails c.args.self.now c.compact_for_finish.new.self _ f k.compacts_all k.fine k.compacts_all.stays.whole refl e.kept (λ n. (e.memory (is ∙ ap Err n), e.memory_written (is ∙ ap Err n), e.memory_failures (is ∙ ap Err n))) (λ n. e.failed (is ∙ ap Err n)) which)
    e.faults
