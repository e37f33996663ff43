use Rattle.cdb_tool.proofs.Words.{arith, err_from_is_err_and, refl}
use Rattle.cdb_show.proofs.ItemInputs.{items_fewer, puts_fewer}
use Rattle.cdb_tool.proofs.InputBatches.{comes_few, comes_filled, comes_long, comes_more, comes_none, comes_waited, end_done, end_stops, fault_stops, fault_unput, long_stops, more_stops, waited_stops}
use Rattle.cdb_tool.proofs.runs.make_input.Puts.put_input.Goals as goal

pub loop-item-init : goal.loop-item-init
loop-item-init g c = record { comes = comes_none {s = g.S.Store} {l = g.L.Width} _ _ _ _ _ _ _ c.args.items.now c.new-batch.result refl refl c.requires.fresh c.new-batch.ensures.done c.new-batch.ensures.none }

pub put_or_wait-requires-clause-holds : goal.put_or_wait-requires-clause-holds
put_or_wait-requires-clause-holds g c =
    let filled = comes_filled {s = g.S.Store} {l = g.L.Width} _ _ _ _ _ _ _ _ _ _ _ _ c.loop-item.invariant.comes c.fill.ensures.takes c.fill.ensures.done in
    (filled.amid.waiting, filled.amid.holds)

pub put_or_wait-requires-clause-few : goal.put_or_wait-requires-clause-few
put_or_wait-requires-clause-few g c =
    let filled = comes_filled {s = g.S.Store} {l = g.L.Width} _ _ _ _ _ _ _ _ _ _ _ _ c.loop-item.invariant.comes c.fill.ensures.takes c.fill.ensures.done in
    comes_few {s = g.S.Store} {l = g.L.Width} _ _ _ _ _ _ _ _ _ _ filled

pub returns-in_err-put_or_wait-clause-fails : goal.returns-in_err-put_or_wait-clause-fails
returns-in_err-put_or_wait-clause-fails g c =
    let p = err_from_is_err_and c.from_residual.result c.from_residual.ensures.1 in
    let filled = comes_filled {s = g.S.Store} {l = g.L.Width} _ _ _ _ _ _ _ _ _ _ _ _ c.loop-item.invariant.comes c.fill.ensures.takes c.fill.ensures.done in
    rw (p.1, p.2) (waited_stops {s = g.S.Store} {l = g.L.Width} _ _ _ _ _ _ _ _ _ c.put_or_wait.new.batch _ _ c.in_err-put_or_wait.field-0.0 filled c.in_err-put_or_wait.ensures.does c.in_err-put_or_wait.ensures.own c.in_err-put_or_wait.ensures.step)

pub put_later-requires-clause-holds : goal.put_later-requires-clause-holds
put_later-requires-clause-holds g c =
    let filled = comes_filled {s = g.S.Store} {l = g.L.Width} _ _ _ _ _ _ _ _ _ _ _ _ c.loop-item.invariant.comes c.fill.ensures.takes c.fill.ensures.done in
    let waited = comes_waited {s = g.S.Store} {l = g.L.Width} _ _ _ _ _ _ _ _ _ _ _ _ filled c.in_ok-put_or_wait.ensures.does c.in_ok-put_or_wait.ensures.step in
    (waited.amid.waiting, waited.amid.holds)

pub put_later-requires-clause-few : goal.put_later-requires-clause-few
put_later-requires-clause-few g c =
    let filled = comes_filled {s = g.S.Store} {l = g.L.Width} _ _ _ _ _ _ _ _ _ _ _ _ c.loop-item.invariant.comes c.fill.ensures.takes c.fill.ensures.done in
    let waited = comes_waited {s = g.S.Store} {l = g.L.Width} _ _ _ _ _ _ _ _ _ _ _ _ filled c.in_ok-put_or_wait.ensures.does c.in_ok-put_or_wait.ensures.step in
    comes_few {s = g.S.Store} {l = g.L.Width} _ _ _ _ _ _ _ _ _ _ waited

pub loop-item-preserved-in-Continue-branch-2 : goal.loop-item-preserved-in-Continue-branch-2
loop-item-preserved-in-Continue-branch-2 g c =
    let filled = comes_filled {s = g.S.Store} {l = g.L.Width} _ _ _ _ _ _ _ _ _ _ _ _ c.loop-item.invariant.comes c.fill.ensures.takes c.fill.ensures.done in
    let waited = comes_waited {s = g.S.Store} {l = g.L.Width} _ _ _ _ _ _ _ _ _ _ _ _ filled c.in_ok-put_or_wait.ensures.does c.in_ok-put_or_wait.ensures.step in
    let one = rw (c.in-Ok-Some-Item-Put.field-0-is, c.in-Ok-Some-Item-Put.field-0-0-is, c.in-Ok-Some-Item-Put.field-0-0-0-is) at c.in-Ok-Some-Item-Put.ensures.gives in
    record { comes = comes_more {s = g.S.Store} {l = g.L.Width} _ _ _ _ _ _ _ _ _ _ _ _ _ _ waited one c.in_ok-put_later-in-Ok-Some-Item-Put.ensures.does c.in_ok-put_later-in-Ok-Some-Item-Put.ensures.step }

pub returns-in_err-put_later-in-Ok-Some-Item-Put-clause-fails : goal.returns-in_err-put_later-in-Ok-Some-Item-Put-clause-fails
returns-in_err-put_later-in-Ok-Some-Item-Put-clause-fails g c =
    let p = err_from_is_err_and c.from_residual-in_err-put_later-in-Ok-Some-Item-Put.result c.from_residual-in_err-put_later-in-Ok-Some-Item-Put.ensures.1 in
    let filled = comes_filled {s = g.S.Store} {l = g.L.Width} _ _ _ _ _ _ _ _ _ _ _ _ c.loop-item.invariant.comes c.fill.ensures.takes c.fill.ensures.done in
    let waited = comes_waited {s = g.S.Store} {l = g.L.Width} _ _ _ _ _ _ _ _ _ _ _ _ filled c.in_ok-put_or_wait.ensures.does c.in_ok-put_or_wait.ensures.step in
    let one = rw (c.in-Ok-Some-Item-Put.field-0-is, c.in-Ok-Some-Item-Put.field-0-0-is, c.in-Ok-Some-Item-Put.field-0-0-0-is) at c.in-Ok-Some-Item-Put.ensures.gives in
    rw (p.1, p.2) (more_stops {s = g.S.Store} {l = g.L.Width} _ _ _ _ _ _ _ _ _ _ _ c.put_later.new.batch _ _ c.in_err-put_later-in-Ok-Some-Item-Put.field-0.0 waited one c.in_err-put_later-in-Ok-Some-Item-Put.ensures.does c.in_err-put_later-in-Ok-Some-Item-Put.ensures.own c.in_err-put_later-in-Ok-Some-Item-Put.ensures.step)

pub remove_after-requires-clause-holds : goal.remove_after-requires-clause-holds
remove_after-requires-clause-holds g c =
    let filled = comes_filled {s = g.S.Store} {l = g.L.Width} _ _ _ _ _ _ _ _ _ _ _ _ c.loop-item.invariant.comes c.fill.ensures.takes c.fill.ensures.done in
    let waited = comes_waited {s = g.S.Store} {l = g.L.Width} _ _ _ _ _ _ _ _ _ _ _ _ filled c.in_ok-put_or_wait.ensures.does c.in_ok-put_or_wait.ensures.step in
    (waited.amid.waiting, waited.amid.holds)

pub remove_after-requires-clause-few : goal.remove_after-requires-clause-few
remove_after-requires-clause-few g c =
    let filled = comes_filled {s = g.S.Store} {l = g.L.Width} _ _ _ _ _ _ _ _ _ _ _ _ c.loop-item.invariant.comes c.fill.ensures.takes c.fill.ensures.done in
    let waited = comes_waited {s = g.S.Store} {l = g.L.Width} _ _ _ _ _ _ _ _ _ _ _ _ filled c.in_ok-put_or_wait.ensures.does c.in_ok-put_or_wait.ensures.step in
    comes_few {s = g.S.Store} {l = g.L.Width} _ _ _ _ _ _ _ _ _ _ waited

pub loop-item-preserved-in-Continue-branch-3 : goal.loop-item-preserved-in-Continue-branch-3
loop-item-preserved-in-Continue-branch-3 g c =
    let filled = comes_filled {s = g.S.Store} {l = g.L.Width} _ _ _ _ _ _ _ _ _ _ _ _ c.loop-item.invariant.comes c.fill.ensures.takes c.fill.ensures.done in
    let waited = comes_waited {s = g.S.Store} {l = g.L.Width} _ _ _ _ _ _ _ _ _ _ _ _ filled c.in_ok-put_or_wait.ensures.does c.in_ok-put_or_wait.ensures.step in
    let one = rw (c.in-Ok-Some-Item-Remove.field-0-is, c.in-Ok-Some-Item-Remove.field-0-0-is, c.in-Ok-Some-Item-Remove.field-0-0-0-is) at c.in-Ok-Some-Item-Remove.ensures.gives in
    record { comes = comes_more {s = g.S.Store} {l = g.L.Width} _ _ _ _ _ _ _ _ _ _ _ _ _ _ waited one (rw c.deref.ensures.value at c.in_ok-remove_after-in-Ok-Some-Item-Remove.ensures.does) c.in_ok-remove_after-in-Ok-Some-Item-Remove.ensures.step }

pub returns-in_err-remove_after-in-Ok-Some-Item-Remove-clause-fails : goal.returns-in_err-remove_after-in-Ok-Some-Item-Remove-clause-fails
returns-in_err-remove_after-in-Ok-Some-Item-Remove-clause-fails g c =
    let p = err_from_is_err_and c.from_residual-in_err-remove_after-in-Ok-Some-Item-Remove.result c.from_residual-in_err-remove_after-in-Ok-Some-Item-Remove.ensures.1 in
    let filled = comes_filled {s = g.S.Store} {l = g.L.Width} _ _ _ _ _ _ _ _ _ _ _ _ c.loop-item.invariant.comes c.fill.ensures.takes c.fill.ensures.done in
    let waited = comes_waited {s = g.S.Store} {l = g.L.Width} _ _ _ _ _ _ _ _ _ _ _ _ filled c.in_ok-put_or_wait.ensures.does c.in_ok-put_or_wait.ensures.step in
    let one = rw (c.in-Ok-Some-Item-Remove.field-0-is, c.in-Ok-Some-Item-Remove.field-0-0-is, c.in-Ok-Some-Item-Remove.field-0-0-0-is) at c.in-Ok-Some-Item-Remove.ensures.gives in
    rw (p.1, p.2) (more_stops {s = g.S.Store} {l = g.L.Width} _ _ _ _ _ _ _ _ _ _ _ c.remove_after.new.batch _ _ c.in_err-remove_after-in-Ok-Some-Item-Remove.field-0.0 waited one (rw c.deref.ensures.value at c.in_err-remove_after-in-Ok-Some-Item-Remove.ensures.does) c.in_err-remove_after-in-Ok-Some-Item-Remove.ensures.own c.in_err-remove_after-in-Ok-Some-Item-Remove.ensures.step)

pub put_waiting-requires-clause-holds : goal.put_waiting-requires-clause-holds
put_waiting-requires-clause-holds g c =
    let filled = comes_filled {s = g.S.Store} {l = g.L.Width} _ _ _ _ _ _ _ _ _ _ _ _ c.loop-item.invariant.comes c.fill.ensures.takes c.fill.ensures.done in
    let waited = comes_waited {s = g.S.Store} {l = g.L.Width} _ _ _ _ _ _ _ _ _ _ _ _ filled c.in_ok-put_or_wait.ensures.does c.in_ok-put_or_wait.ensures.step in
    (waited.amid.waiting, waited.amid.holds)

pub put_waiting-requires-clause-few : goal.put_waiting-requires-clause-few
put_waiting-requires-clause-few g c =
    let filled = comes_filled {s = g.S.Store} {l = g.L.Width} _ _ _ _ _ _ _ _ _ _ _ _ c.loop-item.invariant.comes c.fill.ensures.takes c.fill.ensures.done in
    let waited = comes_waited {s = g.S.Store} {l = g.L.Width} _ _ _ _ _ _ _ _ _ _ _ _ filled c.in_ok-put_or_wait.ensures.does c.in_ok-put_or_wait.ensures.step in
    comes_few {s = g.S.Store} {l = g.L.Width} _ _ _ _ _ _ _ _ _ _ waited

pub returns-in-Ok-None-clause-ok : goal.returns-in-Ok-None-clause-ok
returns-in-Ok-None-clause-ok g c =
    let filled = comes_filled {s = g.S.Store} {l = g.L.Width} _ _ _ _ _ _ _ _ _ _ _ _ c.loop-item.invariant.comes c.fill.ensures.takes c.fill.ensures.done in
    let waited = comes_waited {s = g.S.Store} {l = g.L.Width} _ _ _ _ _ _ _ _ _ _ _ _ filled c.in_ok-put_or_wait.ensures.does c.in_ok-put_or_wait.ensures.step in
    let end = rw c.in-Ok-None.field-0-is at c.in-Ok-None.ensures.gives in
    end_done {s = g.S.Store} {l = g.L.Width} _ _ _ _ _ _ _ _ _ _ _ _ c.put_waiting.result waited end c.put_waiting.ensures.puts c.put_waiting.ensures.step

pub returns-in-Ok-None-clause-fails : goal.returns-in-Ok-None-clause-fails
returns-in-Ok-None-clause-fails g c =
    let filled = comes_filled {s = g.S.Store} {l = g.L.Width} _ _ _ _ _ _ _ _ _ _ _ _ c.loop-item.invariant.comes c.fill.ensures.takes c.fill.ensures.done in
    let waited = comes_waited {s = g.S.Store} {l = g.L.Width} _ _ _ _ _ _ _ _ _ _ _ _ filled c.in_ok-put_or_wait.ensures.does c.in_ok-put_or_wait.ensures.step in
    let end = rw c.in-Ok-None.field-0-is at c.in-Ok-None.ensures.gives in
    end_stops {s = g.S.Store} {l = g.L.Width} _ _ _ _ _ _ _ _ _ _ _ _ c.put_waiting.result waited end c.put_waiting.ensures.puts c.put_waiting.ensures.own c.put_waiting.ensures.step

pub put_waiting-requires-in-Err-clause-holds : goal.put_waiting-requires-in-Err-clause-holds
put_waiting-requires-in-Err-clause-holds g c =
    let filled = comes_filled {s = g.S.Store} {l = g.L.Width} _ _ _ _ _ _ _ _ _ _ _ _ c.loop-item.invariant.comes c.fill.ensures.takes c.fill.ensures.done in
    let waited = comes_waited {s = g.S.Store} {l = g.L.Width} _ _ _ _ _ _ _ _ _ _ _ _ filled c.in_ok-put_or_wait.ensures.does c.in_ok-put_or_wait.ensures.step in
    (waited.amid.waiting, waited.amid.holds)

pub put_waiting-requires-in-Err-clause-few : goal.put_waiting-requires-in-Err-clause-few
put_waiting-requires-in-Err-clause-few g c =
    let filled = comes_filled {s = g.S.Store} {l = g.L.Width} _ _ _ _ _ _ _ _ _ _ _ _ c.loop-item.invariant.comes c.fill.ensures.takes c.fill.ensures.done in
    let waited = comes_waited {s = g.S.Store} {l = g.L.Width} _ _ _ _ _ _ _ _ _ _ _ _ filled c.in_ok-put_or_wait.ensures.does c.in_ok-put_or_wait.ensures.step in
    comes_few {s = g.S.Store} {l = g.L.Width} _ _ _ _ _ _ _ _ _ _ waited

pub returns-in_err-put_waiting-in-Err-clause-fails : goal.returns-in_err-put_waiting-in-Err-clause-fails
returns-in_err-put_waiting-in-Err-clause-fails g c =
    let p = err_from_is_err_and c.from_residual-in_err-put_waiting-in-Err.result c.from_residual-in_err-put_waiting-in-Err.ensures.1 in
    let filled = comes_filled {s = g.S.Store} {l = g.L.Width} _ _ _ _ _ _ _ _ _ _ _ _ c.loop-item.invariant.comes c.fill.ensures.takes c.fill.ensures.done in
    let waited = comes_waited {s = g.S.Store} {l = g.L.Width} _ _ _ _ _ _ _ _ _ _ _ _ filled c.in_ok-put_or_wait.ensures.does c.in_ok-put_or_wait.ensures.step in
    rw (p.1, p.2) (fault_unput {s = g.S.Store} {l = g.L.Width} _ _ _ _ _ _ _ _ _ _ _ _ c.in-Err.fault c.in_err-put_waiting-in-Err.field-0.0 waited c.in-Err.ensures.fails c.in_err-put_waiting-in-Err.ensures.puts c.in_err-put_waiting-in-Err.ensures.own c.in_err-put_waiting-in-Err.ensures.step)

pub returns-in-Err-clause-fails : goal.returns-in-Err-clause-fails
returns-in-Err-clause-fails g c =
    let filled = comes_filled {s = g.S.Store} {l = g.L.Width} _ _ _ _ _ _ _ _ _ _ _ _ c.loop-item.invariant.comes c.fill.ensures.takes c.fill.ensures.done in
    let waited = comes_waited {s = g.S.Store} {l = g.L.Width} _ _ _ _ _ _ _ _ _ _ _ _ filled c.in_ok-put_or_wait.ensures.does c.in_ok-put_or_wait.ensures.step in
    rw c.of_text.ensures (fault_stops {s = g.S.Store} {l = g.L.Width} _ _ _ _ _ _ _ _ _ _ _ _ c.in-Err.fault (λ it. g.met.F.Feeds.one_rest it) waited c.in-Err.ensures.fails c.in_ok-put_waiting-in-Err.ensures.puts c.in_ok-put_waiting-in-Err.ensures.step)

pub put_long-requires-clause-holds : goal.put_long-requires-clause-holds
put_long-requires-clause-holds g c =
    let filled = comes_filled {s = g.S.Store} {l = g.L.Width} _ _ _ _ _ _ _ _ _ _ _ _ c.loop-item.invariant.comes c.fill.ensures.takes c.fill.ensures.done in
    let waited = comes_waited {s = g.S.Store} {l = g.L.Width} _ _ _ _ _ _ _ _ _ _ _ _ filled c.in_ok-put_or_wait.ensures.does c.in_ok-put_or_wait.ensures.step in
    (waited.amid.waiting, waited.amid.holds)

pub put_long-requires-clause-few : goal.put_long-requires-clause-few
put_long-requires-clause-few g c =
    let filled = comes_filled {s = g.S.Store} {l = g.L.Width} _ _ _ _ _ _ _ _ _ _ _ _ c.loop-item.invariant.comes c.fill.ensures.takes c.fill.ensures.done in
    let waited = comes_waited {s = g.S.Store} {l = g.L.Width} _ _ _ _ _ _ _ _ _ _ _ _ filled c.in_ok-put_or_wait.ensures.does c.in_ok-put_or_wait.ensures.step in
    comes_few {s = g.S.Store} {l = g.L.Width} _ _ _ _ _ _ _ _ _ _ waited

pub put_long-requires-clause-left : goal.put_long-requires-clause-left
put_long-requires-clause-left g c =
    let left = rw (c.in-Ok-Some-Value.field-0-is, c.in-Ok-Some-Value.field-0-0-is) at c.in-Ok-Some-Value.ensures.gives in
    (c.fill.new.items, rw c.deref-in-Ok-Some-Value.ensures.value left)

pub loop-item-preserved : goal.loop-item-preserved
loop-item-preserved g c =
    let filled = comes_filled {s = g.S.Store} {l = g.L.Width} _ _ _ _ _ _ _ _ _ _ _ _ c.loop-item.invariant.comes c.fill.ensures.takes c.fill.ensures.done in
    let waited = comes_waited {s = g.S.Store} {l = g.L.Width} _ _ _ _ _ _ _ _ _ _ _ _ filled c.in_ok-put_or_wait.ensures.does c.in_ok-put_or_wait.ensures.step in
    let left = rw (c.in-Ok-Some-Value.field-0-is, c.in-Ok-Some-Value.field-0-0-is) at c.in-Ok-Some-Value.ensures.gives in
    record { comes = comes_long {s = g.S.Store} {l = g.L.Width} _ _ _ _ _ _ _ c.fill.new.items c.put_long.new.items _ _ _ _ _ _ waited (c.in_ok-put_long-in-Ok-Some-Value.ensures.puts c.fill.new.items (rw c.deref-in-Ok-Some-Value.ensures.value left)) c.in_ok-put_long-in-Ok-Some-Value.ensures.step }

pub returns-in_err-put_long-in-Ok-Some-Value-clause-fails : goal.returns-in_err-put_long-in-Ok-Some-Value-clause-fails
returns-in_err-put_long-in-Ok-Some-Value-clause-fails g c =
    let p = err_from_is_err_and c.from_residual-in_err-put_long-in-Ok-Some-Value.result c.from_residual-in_err-put_long-in-Ok-Some-Value.ensures.1 in
    let filled = comes_filled {s = g.S.Store} {l = g.L.Width} _ _ _ _ _ _ _ _ _ _ _ _ c.loop-item.invariant.comes c.fill.ensures.takes c.fill.ensures.done in
    let waited = comes_waited {s = g.S.Store} {l = g.L.Width} _ _ _ _ _ _ _ _ _ _ _ _ filled c.in_ok-put_or_wait.ensures.does c.in_ok-put_or_wait.ensures.step in
    let left = rw (c.in-Ok-Some-Value.field-0-is, c.in-Ok-Some-Value.field-0-0-is) at c.in-Ok-Some-Value.ensures.gives in
    rw (p.1, p.2) (long_stops {s = g.S.Store} {l = g.L.Width} _ _ _ _ _ _ _ c.fill.new.items c.put_long.new.items _ _ _ _ _ c.in_err-put_long-in-Ok-Some-Value.field-0.0 (λ it. g.met.F.Feeds.one_rest it) waited (c.in_err-put_long-in-Ok-Some-Value.ensures.fails c.fill.new.items (rw c.deref-in-Ok-Some-Value.ensures.value left)) c.in_err-put_long-in-Ok-Some-Value.ensures.step)

pub loop-item-smaller : goal.loop-item-smaller
loop-item-smaller g c =
    let left = rw (c.in-Ok-Some-Value.field-0-is, c.in-Ok-Some-Value.field-0-0-is) at c.in-Ok-Some-Value.ensures.gives in
    let takes = c.fill.ensures.takes in
    let long = c.in_ok-put_long-in-Ok-Some-Value.ensures.puts c.fill.new.items (rw c.deref-in-Ok-Some-Value.ensures.value left) in
    omega (arith, puts_fewer g.L.Width.GREATEST g.F.Feeds.feed c.loop-item.items c.fill.new.items takes.more takes.gives, items_fewer g.L.Width.GREATEST g.F.Feeds.feed c.fill.new.items c.put_long.new.items _ long.read)
