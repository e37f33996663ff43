use Rattle.cdb_files.proofs.Finishing.{finishes}
use Rattle.cdb_files.proofs.Stepping.{finish_tried}
use Rattle.cdb_files.proofs.examples.steps.make_step.Goals as goal

pub returns-in-Edit : goal.returns-in-Edit
returns-in-Edit g c = λ rs h. rw c.in-Edit.is (c.make_edit-fault.ensures rs h)

pub returns-in-Err : goal.returns-in-Err
returns-in-Err g c = λ rs h.
    let e = c.in-Err.ensures in
    rw c.in-Finish.is (finish_tried {s = g.S.Store} {l = g.L.Width} c.args.maker c.in-Err.unfinished.maker c.in-Err.unfinished.fault rs c.requires e.counts e.lazy e.fails e.fails_comes e.fails_failures h)

pub returns-in-Ok : goal.returns-in-Ok
returns-in-Ok g c = λ rs h.
    let e = c.in-Ok.ensures in
    rw c.in-Finish.is (finishes {s = g.S.Store} {l = g.L.Width} c.args.maker rs c.in-Ok.store e.whole (e.file rs (h e.whole)) e.size e.comes e.failures)
