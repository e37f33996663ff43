use Rattle.cdb_tool.proofs.Words.{err_from_is_err_and}
use Rattle.cdb_tool.proofs.Courses.{put_done, put_failed}
use Rattle.cdb_tool.proofs.runs.make_input.put_first_record.Goals as goal

pub returns-in_err-put-clause-does : goal.returns-in_err-put-clause-does
returns-in_err-put-clause-does g c =
    let p = err_from_is_err_and c.from_residual.result c.from_residual.ensures.1 in
    rw (p.1, p.2) (put_failed {s = g.S.Store} {l = g.L.Width} c.args.met.options.now _ c.args.met.input c.args.met.number _ _ c.args.maker.now c.put_whole.new.self c.in_err-put.field-0.0 c.requires.mode c.in_err-put.ensures.fails c.put_whole.ensures.follows.comes c.in_err-put.ensures.counts.count)

pub returns-clause-does : goal.returns-clause-does
returns-clause-does g c =
    put_done {s = g.S.Store} {l = g.L.Width} c.args.met.options.now _ c.args.met.input c.args.met.number _ _ _ c.args.maker.now c.put_whole.new.self c.in_ok-put.put c.tell_put.result c.requires.mode g.met.L.Width.four_or_eight c.in_ok-put.ensures.puts c.put_whole.ensures.follows.comes c.put_whole.ensures.follows.limit c.tell_put.ensures.ok c.tell_put.ensures.goes c.tell_put.ensures.fails
