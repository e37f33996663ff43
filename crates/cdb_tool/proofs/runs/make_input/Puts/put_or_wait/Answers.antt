use Rattle.cdb_tool.proofs.Words.{Err, Ok, [], err_from_is_err_and, ◌∙◌}
use Rattle.cdb_tool.proofs.Batches.{amid_refused, waited}
use Rattle.cdb_tool.proofs.runs.make_input.Puts.put_or_wait.Goals as goal

pub returns-in_err-put_waiting-clause-does : goal.returns-in_err-put_waiting-clause-does
returns-in_err-put_waiting-clause-does g c =
    let p = err_from_is_err_and c.from_residual.result c.from_residual.ensures.1 in
    let e = c.in_err-put_waiting.ensures in
    rw (p.1, p.2) (λ items begin amid. waited {s = g.S.Store} {l = g.L.Width} c.args.self.now.options c.args.input begin items c.args.batch.now c.put_waiting.new.batch _ _ (Err c.in_err-put_waiting.field-0.0) e.done e.none amid e.puts)

pub returns-in_err-grow-clause-does : goal.returns-in_err-grow-clause-does
returns-in_err-grow-clause-does g c =
    let p = err_from_is_err_and c.from_residual-in_err-grow.result c.from_residual-in_err-grow.ensures.1 in
    rw (p.1, p.2) (λ items begin amid. (tt, amid_refused {s = g.S.Store} {l = g.L.Width} c.args.self.now.options c.args.input begin items [] _ (c.in_ok-put_waiting.ensures.puts items begin amid).0))

pub returns-in_ok-grow-clause-does : goal.returns-in_ok-grow-clause-does
returns-in_ok-grow-clause-does g c =
    let e = c.in_ok-put_waiting.ensures in
    λ items begin amid. waited {s = g.S.Store} {l = g.L.Width} c.args.self.now.options c.args.input begin items c.args.batch.now c.grow.new.self _ _ (Ok tt) (c.grow.ensures.done ∙ e.done) c.grow.ensures.none amid e.puts

pub returns-else-is_full-clause-does : goal.returns-else-is_full-clause-does
returns-else-is_full-clause-does g c =
    let e = c.in_ok-put_waiting.ensures in
    λ items begin amid. waited {s = g.S.Store} {l = g.L.Width} c.args.self.now.options c.args.input begin items c.args.batch.now c.put_waiting.new.batch _ _ (Ok tt) e.done e.none amid e.puts
