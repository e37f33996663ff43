use Rattle.cdb_tool.proofs.Words.{sym, ◌∙◌}
use Rattle.cdb_tool.proofs.runs.make_input.Puts.put_waiting.Goals as goal
use Rattle.cdb_tool.proofs.runs.make_input.Puts.put_waiting.Goals.{in-Add, in-Warn}

pub returns-clause-puts : goal.returns-clause-puts
returns-clause-puts g c = elim c.match-put_mode.branch [
  | in-Add w ↦
      rw (w.put-is, w.maker-is, w.errors-is) (w.append_batch-put.ensures.puts c.args.self.now.options c.args.input (g.E.Sink.contents c.args.errors.now) (sym c.put_mode.ensures ∙ w.in-Add.is))
  | in-Warn w ↦ rw (w.put-is, w.maker-is, w.errors-is) w.put_each-put.ensures.puts
]
