use Rattle.cdb_tool.proofs.Words.{Putting, [], arith, err_from_is_err_and, progress, refl, subst, sym, ◌+◌, ◌∙◌, ◌∷◌, ◌≡◌}
use Rattle.cdb_form.specs.Views.Pairs.{key_value}
use Rattle.cdb_tool.specs.Runs.Batches.{HoldsBatch, IsAmid}
use Rattle.cdb_tool.proofs.Batches.{amid_all, amid_count, amid_more, amid_refused, item_does, stops_more}
use Rattle.cdb_tool.proofs.MakerSteps.{step_on}
use Rattle.cdb_tool.proofs.runs.make_input.Puts.put_later.Goals as goal

pub returns-then-add-clause-does : goal.returns-then-add-clause-does
returns-then-add-clause-does g c = λ items begin amid. (
  amid_more {s = g.S.Store} {l = g.L.Width} c.args.self.now.options c.args.input begin items c.args.batch.now c.add.new.batch (key_value c.args.item.now ∷ []) _ amid c.add.ensures.done (c.add.ensures.added c.if-add.true),
  tt,
)

pub returns-in_err-put_waiting-clause-does : goal.returns-in_err-put_waiting-clause-does
returns-in_err-put_waiting-clause-does g c =
    let p = err_from_is_err_and c.from_residual.result c.from_residual.ensures.1 in
    let same : c.add.new.batch ≡ c.args.batch.now = c.add.ensures.full c.if-add.false in
    rw (p.1, p.2) (λ items begin amid.
    let at = subst (λ b. IsAmid {s = g.S.Store} {l = g.L.Width} c.args.self.now.options c.args.input items b begin (progress (g.E.Sink.contents c.args.errors.now) c.args.maker.now)) (sym same) amid in (
      tt,
      stops_more {s = g.S.Store} {l = g.L.Width} c.args.self.now.options c.args.input begin items (Putting (key_value c.args.item.now) ∷ []) _ c.in_err-put_waiting.field-0.0 (c.in_err-put_waiting.ensures.puts items begin at).1,
    ))

pub returns-in_err-grow-clause-does : goal.returns-in_err-grow-clause-does
returns-in_err-grow-clause-does g c =
    let p = err_from_is_err_and c.from_residual-in_err-grow.result c.from_residual-in_err-grow.ensures.1 in
    let same : c.add.new.batch ≡ c.args.batch.now = c.add.ensures.full c.if-add.false in
    rw (p.1, p.2) (λ items begin amid.
    let at = subst (λ b. IsAmid {s = g.S.Store} {l = g.L.Width} c.args.self.now.options c.args.input items b begin (progress (g.E.Sink.contents c.args.errors.now) c.args.maker.now)) (sym same) amid in (
      tt,
      amid_refused {s = g.S.Store} {l = g.L.Width} c.args.self.now.options c.args.input begin items (Putting (key_value c.args.item.now) ∷ []) _ (c.in_ok-put_waiting.ensures.puts items begin at).0,
    ))

pub returns-then-add-2-clause-does : goal.returns-then-add-2-clause-does
returns-then-add-2-clause-does g c = λ items begin amid.
    let same : c.add.new.batch ≡ c.args.batch.now = c.add.ensures.full c.if-add.false in
    let at = subst (λ b. IsAmid {s = g.S.Store} {l = g.L.Width} c.args.self.now.options c.args.input items b begin (progress (g.E.Sink.contents c.args.errors.now) c.args.maker.now)) (sym same) amid in
    let count = amid_count {s = g.S.Store} {l = g.L.Width} c.args.self.now.options c.args.input begin items c.add.new.batch _ at in
    let done = amid_all {s = g.S.Store} {l = g.L.Width} c.args.self.now.options c.args.input begin items c.grow.new.self _ (c.grow.ensures.done ∙ c.put_waiting.ensures.done ∙ count) c.in_ok-grow.ensures.none (c.in_ok-put_waiting.ensures.puts items begin at).0 in (
      amid_more {s = g.S.Store} {l = g.L.Width} c.args.self.now.options c.args.input begin items c.grow.new.self c.add-2.new.batch (key_value c.args.item.now ∷ []) _ done c.add-2.ensures.done (c.add-2.ensures.added c.if-add-2.true),
      tt,
    )

pub returns-clause-does : goal.returns-clause-does
returns-clause-does g c = λ items begin amid.
    let same : c.add.new.batch ≡ c.args.batch.now = c.add.ensures.full c.if-add.false in
    let full : c.add-2.new.batch ≡ c.grow.new.self = c.add-2.ensures.full c.if-add-2.false in
    let at = subst (λ b. IsAmid {s = g.S.Store} {l = g.L.Width} c.args.self.now.options c.args.input items b begin (progress (g.E.Sink.contents c.args.errors.now) c.args.maker.now)) (sym same) amid in
    let count = amid_count {s = g.S.Store} {l = g.L.Width} c.args.self.now.options c.args.input begin items c.add.new.batch _ at in
    let none = subst (λ b. HoldsBatch g.L.Width.WORD g.L.Width.TOP b []) (sym full) c.in_ok-grow.ensures.none in
    item_does {s = g.S.Store} {l = g.L.Width} c.args.self.now.options c.args.input begin items (c.add-2.new.batch.done + 1) (Putting (key_value c.args.item.now)) _ (progress (g.E.Sink.contents c.put_waiting.new.errors) c.put_waiting.new.maker) (progress (g.E.Sink.contents c.put_record.new.errors) c.put_record.new.maker) c.put_record.result
    (omega (arith, c.add-2.ensures.done, c.grow.ensures.done, c.put_waiting.ensures.done, count)) refl (record { bytes = none.bytes; count = none.count; are = none.are; fit = none.fit }) c.put_record.ensures.step.follows.comes (c.in_ok-put_waiting.ensures.puts items begin at).0 (rw (c.deref.ensures.value, c.deref-2.ensures.value) at c.put_record.ensures.does)

pub returns-clause-step : goal.returns-clause-step
returns-clause-step g c = step_on c.put_record.result c.put_waiting.ensures.step.follows c.in_ok-put_waiting.ensures.step.fine (λ is. is) (λ is. is) c.put_record.ensures.step
