use Rattle.std.proofs.lemmas.Result.{IfErr-weaker, on_ok_weaker}
use Rattle.cdb_tool.proofs.FedRuns.{all_put, put_steps, put_stopped, were_read}
use Rattle.cdb_tool.proofs.runs.make.put_inputs.Goals as goal

pub returns-clause-ok : goal.returns-clause-ok
returns-clause-ok g c =
    on_ok_weaker c.do_inputs.result.1
    (λ h. (h.read, were_read g.J.Feeds.feed g.I.Feeds.feed _ h.read _ c.args.inputs c.do_inputs.result.0 h.reads, all_put {s = g.S.Store} {l = g.L.Width} c.args.run.options c.args.amends _ _ _ h))
    c.do_inputs.ensures.ok

pub returns-clause-fails : goal.returns-clause-fails
returns-clause-fails g c =
    IfErr-weaker c.do_inputs.result.1 _ _
    (λ f h. (h.read, h.last, were_read g.J.Feeds.feed g.I.Feeds.feed _ h.read _ c.args.inputs c.do_inputs.result.0 h.reads, h.is_fault, put_stopped {s = g.S.Store} {l = g.L.Width} c.args.run.options c.args.amends _ _ _ _ f h))
    c.do_inputs.ensures.fails

pub returns-clause-step : goal.returns-clause-step
returns-clause-step g c = put_steps {s = g.S.Store} {l = g.L.Width} c.args.run.options c.args.amends _ _ _ _ _ c.do_inputs.result.1 c.do_inputs.ensures.ok c.do_inputs.ensures.fails c.do_inputs.ensures.output
