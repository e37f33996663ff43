use Rattle.cdb_tool.proofs.Words.{Err, arith, ◌∙◌}
use Rattle.cdb_tool.proofs.FedEnds.{of_making, read_none, read_stopped, read_unfinished, read_whole}
use Rattle.cdb_tool.proofs.RunEnds.{runs_not, runs_unbased, hands_same, unmade_memory, unmade_store, unfinished_store, unfinished_memory}
use Rattle.cdb_show.proofs.OutputFaults.{says_more}
use Rattle.cdb_tool.proofs.BaseRecords.{make_no_base, make_says}
use Rattle.cdb_tool.proofs.runs.make.make_unflushed.Goals as goal

pub returns-in-Err-clause-runs : goal.returns-in-Err-clause-runs
returns-in-Err-clause-runs g c =
    let s = g.S.Store in
    rw c.from.ensures
    (read_none g.B.Store c.args.base c.args.base g.J.Feeds.feed g.I.Feeds.feed _ _ _ c.args.inputs _ _ _ _ (of_making c.in-Err.refused.fault)
    (runs_not s.image s.size s.written s.failures g.B.Store _ _ _ _ _ c.args.store c.in-Err.refused.store _ c.in-Err.refused.fault c.in-Err.ensures.fails))

pub returns-in-Err-clause-hands : goal.returns-in-Err-clause-hands
returns-in-Err-clause-hands g c = hands_same g.B.Store c.args.base

pub returns-in-Err-put-clause-runs : goal.returns-in-Err-put-clause-runs
returns-in-Err-put-clause-runs g c =
    let add = c.add_base-base.ensures in
    let base = c.add_base-base.result.0 in
    let holds = (rw c.in_default.is at add.ok) c.in-Ok.ensures.begins.holds in
    let put = rw c.in-Err-put.is at c.put_inputs-inputs.ensures.fails in
    rw c.into_store-in-Err-put.ensures
    (read_stopped {s = g.S.Store} {l = g.L.Width} g.B.Store c.args.base base g.J.Feeds.feed g.I.Feeds.feed g.L.Width.GREATEST c.args.run.options c.is_some-amends.result c.args.inputs c.put_inputs-inputs.result.0 (g.E.Sink.contents c.args.errors.now) _ c.add_base-base.new.maker c.put_inputs-inputs.new.maker c.is_some-amends.ensures
    g.met.L.Width.four_or_eight holds (add.step.follows.limit ∙ c.in-Ok.ensures.begins.limited) c.put_inputs-inputs.ensures.step.follows.comes put.0 put.1 c.in-Err-put.fault put.2 put.3 put.4)

pub returns-in-Ok-finish-clause-runs : goal.returns-in-Ok-finish-clause-runs
returns-in-Ok-finish-clause-runs g c =
    let add = c.add_base-base.ensures in
    let base = c.add_base-base.result.0 in
    let holds = (rw c.in_default.is at add.ok) c.in-Ok.ensures.begins.holds in
    let put = rw c.in_default-put.is at c.put_inputs-inputs.ensures.ok in
    read_whole {s = g.S.Store} {l = g.L.Width} g.B.Store c.args.base base g.J.Feeds.feed g.I.Feeds.feed g.L.Width.GREATEST c.args.run.options c.is_some-amends.result c.args.inputs c.put_inputs-inputs.result.0 (g.E.Sink.contents c.args.errors.now) _ c.add_base-base.new.maker c.put_inputs-inputs.new.maker c.is_some-amends.ensures
    g.met.L.Width.four_or_eight holds (add.step.follows.limit ∙ c.in-Ok.ensures.begins.limited) c.put_inputs-inputs.ensures.step.follows.comes put.0 _ put.1 put.2 c.in-Ok-finish.ensures.comes c.in-Ok-finish.ensures.file

pub returns-in-Err-finish-clause-runs : goal.returns-in-Err-finish-clause-runs
returns-in-Err-finish-clause-runs g c =
    let add = c.add_base-base.ensures in
    let base = c.add_base-base.result.0 in
    let holds = (rw c.in_default.is at add.ok) c.in-Ok.ensures.begins.holds in
    let put = rw c.in_default-put.is at c.put_inputs-inputs.ensures.ok in
    let e = c.in-Err-finish.ensures in
    rw (c.from-in-Err-finish.ensures, c.into_store-in-Err-finish.ensures)
    (read_unfinished {s = g.S.Store} {l = g.L.Width} g.B.Store c.args.base base g.J.Feeds.feed g.I.Feeds.feed g.L.Width.GREATEST c.args.run.options c.is_some-amends.result c.args.inputs c.put_inputs-inputs.result.0 (g.E.Sink.contents c.args.errors.now) _ c.add_base-base.new.maker c.put_inputs-inputs.new.maker c.is_some-amends.ensures
    g.met.L.Width.four_or_eight holds (add.step.follows.limit ∙ c.in-Ok.ensures.begins.limited) c.put_inputs-inputs.ensures.step.follows.comes put.0 c.in-Err-finish.unfinished.maker c.in-Err-finish.unfinished.fault put.1 put.2 e.fails_comes e.fails)

pub returns-in-Err-finish-clause-base_failed : goal.returns-in-Err-finish-clause-base_failed
returns-in-Err-finish-clause-base_failed g c = rw c.from-in-Err-finish.ensures (λ is. absurd (make_no_base c.in-Err-finish.unfinished.fault is))

pub returns-in-Err-clause-base_failed : goal.returns-in-Err-clause-base_failed
returns-in-Err-clause-base_failed g c = rw c.from.ensures (λ is. absurd (make_no_base c.in-Err.refused.fault is))

pub returns-in-Err-added-clause-runs : goal.returns-in-Err-added-clause-runs
returns-in-Err-added-clause-runs g c =
    let add = c.add_base-base.ensures in
    let base = c.add_base-base.result.0 in
    let fails = (rw c.in-Err-added.is at add.fails) c.in-Ok.ensures.begins.holds in
    rw c.into_store.ensures
    (read_none g.B.Store c.args.base base g.J.Feeds.feed g.I.Feeds.feed _ _ c.args.run.options c.args.inputs _ _ _ _ (rw c.in-Err-added.is at add.own)
    (runs_unbased g.B.Store base _ _ c.args.run.options _ (g.E.Sink.contents c.args.errors.now) _ c.in-Err-added.fault c.in-Ok.ensures.begins.limited fails))

pub returns-in-Err-finish-clause-failed : goal.returns-in-Err-finish-clause-failed
returns-in-Err-finish-clause-failed g c =
    rw (c.from-in-Err-finish.ensures, c.into_store-in-Err-finish.ensures)
    (λ is.
    let based = rw c.in_default.is at c.add_base-base.ensures.step.fine in
    let made = c.in-Ok.ensures.begins.fine in
    let put = (rw c.in_default-put.is at c.put_inputs-inputs.ensures.step.fine) in
    let late = unfinished_store {s = g.S.Store} {l = g.L.Width} c.put_inputs-inputs.new.maker c.in-Err-finish.unfinished.maker c.in-Err-finish.unfinished.fault c.in-Err-finish.ensures.fails is in
    omega (arith, late, put, based, made))

pub returns-in-Err-put-clause-failed : goal.returns-in-Err-put-clause-failed
returns-in-Err-put-clause-failed g c =
    rw c.into_store-in-Err-put.ensures
    (λ is.
    let based = rw c.in_default.is at c.add_base-base.ensures.step.fine in
    let made = c.in-Ok.ensures.begins.fine in
    let late = (rw c.in-Err-put.is at c.put_inputs-inputs.ensures.step).failed is in
    omega (arith, late, based, made))

pub returns-in-Err-put-clause-base_failed : goal.returns-in-Err-put-clause-base_failed
returns-in-Err-put-clause-base_failed g c = λ is. absurd ((rw c.in-Err-put.is at c.put_inputs-inputs.ensures.step).base is)

pub returns-in-Err-clause-failed : goal.returns-in-Err-clause-failed
returns-in-Err-clause-failed g c =
    let s = g.S.Store in
    rw c.from.ensures (unmade_store s.image s.size s.written s.failures c.args.store c.in-Err.refused.store c.in-Err.refused.fault c.in-Err.ensures.fails)

pub returns-in-Err-clause-memory : goal.returns-in-Err-clause-memory
returns-in-Err-clause-memory g c =
    let s = g.S.Store in
    rw c.from.ensures (unmade_memory s.image s.size s.written s.failures c.args.store c.in-Err.refused.store c.in-Err.refused.fault c.in-Err.ensures.fails)

pub returns-in-Err-finish-clause-memory : goal.returns-in-Err-finish-clause-memory
returns-in-Err-finish-clause-memory g c =
    rw (c.from-in-Err-finish.ensures, c.into_store-in-Err-finish.ensures)
    (λ is.
    let based = rw c.in_default.is at c.add_base-base.ensures.step.fine in
    let made = c.in-Ok.ensures.begins.fine in
    let put = (rw c.in_default-put.is at c.put_inputs-inputs.ensures.step.fine) in
    let late = unfinished_memory {s = g.S.Store} {l = g.L.Width} c.put_inputs-inputs.new.maker c.in-Err-finish.unfinished.maker c.in-Err-finish.unfinished.fault c.in-Err-finish.ensures.fails is in
    omega (arith, late, put, based, made))

pub returns-in-Err-finish-clause-output : goal.returns-in-Err-finish-clause-output
returns-in-Err-finish-clause-output g c = rw c.from-in-Err-finish.ensures (make_says Unit (g.E.Sink.failed c.put_inputs-inputs.new.errors) c.in-Err-finish.unfinished.fault)

pub returns-in-Err-added-clause-output : goal.returns-in-Err-added-clause-output
returns-in-Err-added-clause-output g c =
    says_more (Err c.in-Err-added.fault) (λ never. absurd never) (rw c.in-Err-added.is at c.add_base-base.ensures.step.output)
