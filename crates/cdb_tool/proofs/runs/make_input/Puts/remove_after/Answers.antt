use Rattle.cdb_tool.proofs.Words.{Removing, [], arith, err_from_is_err_and, progress, refl, ◌+◌, ◌∷◌}
use Rattle.cdb_tool.proofs.Batches.{amid_count, item_does, stops_more}
use Rattle.cdb_tool.proofs.MakerSteps.{step_on}
use Rattle.cdb_tool.proofs.runs.make_input.Puts.remove_after.Goals as goal

pub returns-in_err-put_waiting-clause-does : goal.returns-in_err-put_waiting-clause-does
returns-in_err-put_waiting-clause-does g c =
    let p = err_from_is_err_and c.from_residual.result c.from_residual.ensures.1 in
    rw (p.1, p.2) (λ items begin amid. (
      tt,
      stops_more {s = g.S.Store} {l = g.L.Width} c.args.self.now.options c.args.input begin items (Removing c.args.key.now ∷ []) _ c.in_err-put_waiting.field-0.0 (c.in_err-put_waiting.ensures.puts items begin amid).1,
    ))

pub returns-clause-does : goal.returns-clause-does
returns-clause-does g c = λ items begin amid.
    let count = amid_count {s = g.S.Store} {l = g.L.Width} c.args.self.now.options c.args.input begin items c.args.batch.now _ amid in
    let none = c.put_waiting.ensures.none in
    item_does {s = g.S.Store} {l = g.L.Width} c.args.self.now.options c.args.input begin items (c.put_waiting.new.batch.done + 1) (Removing c.args.key.now) _ (progress (g.E.Sink.contents c.put_waiting.new.errors) c.put_waiting.new.maker) (progress (g.E.Sink.contents c.put_waiting.new.errors) c.remove_key.new.maker) c.remove_key.result
    (omega (arith, c.put_waiting.ensures.done, count)) refl (record { bytes = none.bytes; count = none.count; are = none.are; fit = none.fit }) c.remove_key.ensures.step.follows.comes (c.in_ok-put_waiting.ensures.puts items begin amid).0 (c.remove_key.ensures.does c.args.self.now.options c.args.input (c.put_waiting.new.batch.done + 1) (g.E.Sink.contents c.put_waiting.new.errors))

pub returns-clause-step : goal.returns-clause-step
returns-clause-step g c = step_on c.remove_key.result c.put_waiting.ensures.step.follows c.in_ok-put_waiting.ensures.step.fine (λ is. is) (λ is. absurd is) c.remove_key.ensures.step
