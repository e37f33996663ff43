use Rattle.cdb_tool.proofs.Words.{Err, Ok, [], ap, arith, err_from_is_err_and, follows_then, inl, inr, progress, refl, subst, sym, ◌+◌, ◌∙◌, ◌≡◌}
use Rattle.std.proofs.lemmas.Result.{on_err_weaker, on_ok_weaker}
use Rattle.cdb_make.proofs.Callers.{part_counts}
use Rattle.cdb_tool.specs.Runs.Batches.{PutsWaiting}
use Rattle.cdb_tool.specs.Runs.LongValues.{long_item}
use Rattle.cdb_tool.proofs.LongValues.{added_long, adding_step, adding_stopped, long_put, long_step, memory_before, put_stopped, still_none, stops_before, then_counts, unread_before, unread_step}
use Rattle.cdb_tool.proofs.MakerSteps.{step_on}
use Rattle.cdb_tool.proofs.runs.make_input.Puts.put_long.Goals as goal

pub returns-in_err-put_waiting-clause-fails : goal.returns-in_err-put_waiting-clause-fails
returns-in_err-put_waiting-clause-fails g c =
    let p = err_from_is_err_and c.from_residual.result c.from_residual.ensures.1 in
    rw (p.1, p.2) (λ first amid. inr (inl (record {
      got = [];
      amid = amid;
      own = c.in_err-put_waiting.ensures.own;
      stops = λ items start at. (c.in_err-put_waiting.ensures.puts items start at).1;
    })))

pub returns-in_err-reserve-clause-fails : goal.returns-in_err-reserve-clause-fails
returns-in_err-reserve-clause-fails g c =
    let p = err_from_is_err_and c.from_residual-in_err-reserve.result c.from_residual-in_err-reserve.ensures.1 in
    rw (p.1, p.2) (λ first amid. memory_before {s = g.S.Store} {l = g.L.Width} c.args.self.now.options g.L.Width.GREATEST g.F.Feeds.feed (long_item c.args.input first c.args.key.now c.args.vlen) c.args.items.now c.args.batch.now (progress (g.E.Sink.contents c.args.errors.now) c.args.maker.now) (g.E.Sink.contents c.put_waiting.new.errors) c.put_waiting.new.maker c.in_ok-put_waiting.ensures.puts [] amid)

pub returns-in_err-long-clause-fails : goal.returns-in_err-long-clause-fails
returns-in_err-long-clause-fails g c =
    let p = err_from_is_err_and c.from_residual-in_err-long.result c.from_residual-in_err-long.ensures.1 in
    rw (p.1, p.2) (λ first amid. stops_before {s = g.S.Store} {l = g.L.Width} c.args.self.now.options g.L.Width.GREATEST g.F.Feeds.feed (long_item c.args.input first c.args.key.now c.args.vlen) c.args.items.now c.args.batch.now (progress (g.E.Sink.contents c.args.errors.now) c.args.maker.now) (g.E.Sink.contents c.put_waiting.new.errors) c.put_waiting.new.maker c.in_ok-put_waiting.ensures.puts c.begin_added.new.maker c.in_err-long.field-0.0 [] amid c.in_err-long.ensures.fails c.begin_added.ensures.follows c.in_err-long.ensures.counts)

pub returns-in_err-long-clause-step : goal.returns-in_err-long-clause-step
returns-in_err-long-clause-step g c =
    let p = err_from_is_err_and c.from_residual-in_err-long.result c.from_residual-in_err-long.ensures.1 in
    rw (p.1, p.2) (step_on (Err _) c.put_waiting.ensures.step.follows c.in_ok-put_waiting.ensures.step.fine (λ is. is) (λ is. is) (long_step {s = g.S.Store} {l = g.L.Width} c.put_waiting.new.maker c.begin_added.new.maker c.in_err-long.field-0.0 c.in_err-long.ensures.fails c.begin_added.ensures.follows))

pub add_long-requires-clause-begun : goal.add_long-requires-clause-begun
add_long-requires-clause-begun g c =
    let h = c.requires.left in
    let b = rw c.in-Some.is at c.in_ok-long.ensures.begins in
    (c.put_waiting.new.maker, long_item c.args.input h.0 c.args.key.now c.args.vlen, b.1, h.1)

pub returns-in-Some-clause-puts : goal.returns-in-Some-clause-puts
returns-in-Some-clause-puts g c = λ first amid.
    let b = rw c.in-Some.is at c.in_ok-long.ensures.begins in
    let it = long_item c.args.input first c.args.key.now c.args.vlen in
    added_long {s = g.S.Store} {l = g.L.Width} c.args.self.now.options g.L.Width.GREATEST g.F.Feeds.feed it c.add_long.new.items c.args.batch.now (progress (g.E.Sink.contents c.args.errors.now) c.args.maker.now) (g.E.Sink.contents c.put_waiting.new.errors) c.put_waiting.new.maker c.in_ok-put_waiting.ensures.puts c.add_long.new.maker (follows_then _ _ _ c.begin_added.ensures.follows c.add_long.ensures.follows) c.add_long.result _ (sym b.0 ∙ c.put_mode-mode.ensures) g.met.L.Width.four_or_eight (omega (arith, c.put_waiting.ensures.done, c.reserve.ensures.done)) (still_none c.reserve.new.self _ c.reserve.ensures.none (omega (arith, c.reserve.new.self.within, c.deref_mut.ensures.len)) refl refl)
    (c.add_long.ensures.puts c.put_waiting.new.maker it b.1 amid)

pub returns-in-Some-clause-fails : goal.returns-in-Some-clause-fails
returns-in-Some-clause-fails g c = λ first amid.
    let b = rw c.in-Some.is at c.in_ok-long.ensures.begins in
    let it = long_item c.args.input first c.args.key.now c.args.vlen in
    adding_stopped {s = g.S.Store} {l = g.L.Width} c.args.self.now.options g.L.Width.GREATEST g.F.Feeds.feed it c.add_long.new.items c.args.batch.now (progress (g.E.Sink.contents c.args.errors.now) c.args.maker.now) (g.E.Sink.contents c.put_waiting.new.errors) c.put_waiting.new.maker c.in_ok-put_waiting.ensures.puts c.add_long.new.maker (follows_then _ _ _ c.begin_added.ensures.follows c.add_long.ensures.follows) c.add_long.result (on_err_weaker c.add_long.result (then_counts _ _ _ (part_counts c.put_waiting.new.maker c.begin_added.new.maker c.args.key.now c.args.vlen [] c.in-Some.long b.1)) c.add_long.ensures.counts) (c.add_long.ensures.fails c.put_waiting.new.maker it refl b.1 amid)

pub returns-in-Some-clause-step : goal.returns-in-Some-clause-step
returns-in-Some-clause-step g c =
    let h = c.requires.left in
    let b = rw c.in-Some.is at c.in_ok-long.ensures.begins in
    let it = long_item c.args.input h.0 c.args.key.now c.args.vlen in
    step_on c.add_long.result c.put_waiting.ensures.step.follows c.in_ok-put_waiting.ensures.step.fine (λ is. is) (λ is. is)
    (adding_step {s = g.S.Store} {l = g.L.Width} g.L.Width.GREATEST g.F.Feeds.feed it c.add_long.new.items c.put_waiting.new.maker c.add_long.new.maker c.add_long.result (follows_then _ _ _ c.begin_added.ensures.follows c.add_long.ensures.follows) (on_ok_weaker c.add_long.result (λ fine. fine ∙ c.in_ok-long.ensures.fine) c.add_long.ensures.fine) (c.add_long.ensures.fails c.put_waiting.new.maker it refl b.1 h.1))

pub read_whole-requires-clause-left : goal.read_whole-requires-clause-left
read_whole-requires-clause-left g c =
    let h = c.requires.left in
    (long_item c.args.input h.0 c.args.key.now c.args.vlen, refl, h.1)

pub returns-in_err-value-clause-fails : goal.returns-in_err-value-clause-fails
returns-in_err-value-clause-fails g c =
    let p = err_from_is_err_and c.from_residual-in_err-value.result c.from_residual-in_err-value.ensures.1 in
    let same : c.begin_added.new.maker ≡ c.put_waiting.new.maker = c.in_ok-long.ensures.none (ap Ok c.in_default.is) in
    let waited = subst (λ v. PutsWaiting {s = g.S.Store} {l = g.L.Width} c.args.self.now.options c.args.input c.args.batch.now (progress (g.E.Sink.contents c.args.errors.now) c.args.maker.now) (progress (g.E.Sink.contents c.put_waiting.new.errors) v) (Ok tt)) (sym same) c.in_ok-put_waiting.ensures.puts in
    rw (p.1, p.2) (λ first amid.
    let it = long_item c.args.input first c.args.key.now c.args.vlen in
    unread_before {s = g.S.Store} {l = g.L.Width} c.args.self.now.options g.L.Width.GREATEST g.F.Feeds.feed it c.read_whole.new.items c.args.batch.now (progress (g.E.Sink.contents c.args.errors.now) c.args.maker.now) (g.E.Sink.contents c.put_waiting.new.errors) c.begin_added.new.maker waited c.in_err-value.field-0.0 (c.in_err-value.ensures.fails it refl refl amid))

pub returns-in_err-value-clause-step : goal.returns-in_err-value-clause-step
returns-in_err-value-clause-step g c =
    let p = err_from_is_err_and c.from_residual-in_err-value.result c.from_residual-in_err-value.ensures.1 in
    let h = c.requires.left in
    let it = long_item c.args.input h.0 c.args.key.now c.args.vlen in
    rw (p.1, p.2) (step_on (Err _) (follows_then _ _ _ c.put_waiting.ensures.step.follows c.begin_added.ensures.follows) (c.in_ok-long.ensures.fine ∙ c.in_ok-put_waiting.ensures.step.fine) (λ is. is) (λ is. is)
    (unread_step {s = g.S.Store} {l = g.L.Width} g.L.Width.GREATEST g.F.Feeds.feed it c.read_whole.new.items c.begin_added.new.maker c.in_err-value.field-0.0 (c.in_err-value.ensures.fails it refl refl h.1)))

pub returns-clause-puts : goal.returns-clause-puts
returns-clause-puts g c = λ first amid.
    let same : c.begin_added.new.maker ≡ c.put_waiting.new.maker = c.in_ok-long.ensures.none (ap Ok c.in_default.is) in
    let waited = subst (λ v. PutsWaiting {s = g.S.Store} {l = g.L.Width} c.args.self.now.options c.args.input c.args.batch.now (progress (g.E.Sink.contents c.args.errors.now) c.args.maker.now) (progress (g.E.Sink.contents c.put_waiting.new.errors) v) (Ok tt)) (sym same) c.in_ok-put_waiting.ensures.puts in
    let it = long_item c.args.input first c.args.key.now c.args.vlen in
    long_put {s = g.S.Store} {l = g.L.Width} c.args.self.now.options g.L.Width.GREATEST g.F.Feeds.feed it c.read_whole.new.items c.args.batch.now (progress (g.E.Sink.contents c.args.errors.now) c.args.maker.now) (g.E.Sink.contents c.put_waiting.new.errors) c.begin_added.new.maker waited _ (progress (g.E.Sink.contents c.put_record.new.errors) c.put_record.new.maker) c.in_ok-value.value.items (c.in_ok-value.ensures.read it refl amid) (omega (arith, c.put_waiting.ensures.done, c.reserve.ensures.done)) (still_none c.reserve.new.self _ c.reserve.ensures.none (omega (arith, c.reserve.new.self.within, c.deref_mut-2.ensures.len)) refl refl) c.put_record.ensures.step.follows.comes c.put_record.result (rw c.deref.ensures.value at c.put_record.ensures.does)

pub returns-clause-fails : goal.returns-clause-fails
returns-clause-fails g c = λ first amid.
    let same : c.begin_added.new.maker ≡ c.put_waiting.new.maker = c.in_ok-long.ensures.none (ap Ok c.in_default.is) in
    let waited = subst (λ v. PutsWaiting {s = g.S.Store} {l = g.L.Width} c.args.self.now.options c.args.input c.args.batch.now (progress (g.E.Sink.contents c.args.errors.now) c.args.maker.now) (progress (g.E.Sink.contents c.put_waiting.new.errors) v) (Ok tt)) (sym same) c.in_ok-put_waiting.ensures.puts in
    let it = long_item c.args.input first c.args.key.now c.args.vlen in
    put_stopped {s = g.S.Store} {l = g.L.Width} c.args.self.now.options g.L.Width.GREATEST g.F.Feeds.feed it c.read_whole.new.items c.args.batch.now (progress (g.E.Sink.contents c.args.errors.now) c.args.maker.now) (g.E.Sink.contents c.put_waiting.new.errors) c.begin_added.new.maker waited (progress (g.E.Sink.contents c.put_record.new.errors) c.put_record.new.maker) c.in_ok-value.value.items (c.reserve.new.self.done + 1) (c.in_ok-value.ensures.read it refl amid) (omega (arith, c.put_waiting.ensures.done, c.reserve.ensures.done)) c.put_record.ensures.step.follows.comes c.put_record.result (rw c.deref.ensures.value at c.put_record.ensures.does) c.put_record.ensures.own

pub returns-clause-step : goal.returns-clause-step
returns-clause-step g c = step_on c.put_record.result (follows_then _ _ _ c.put_waiting.ensures.step.follows c.begin_added.ensures.follows) (c.in_ok-long.ensures.fine ∙ c.in_ok-put_waiting.ensures.step.fine) (λ is. is) (λ is. is) c.put_record.ensures.step
