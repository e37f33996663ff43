use Rattle.std.proofs.Common.{sym}
use Rattle.cdb_files.proofs.Stepping.{put_tried, removal_tried}
use Rattle.cdb_files.proofs.examples.edits.make_edit.Goals as goal

pub returns-in-Put : goal.returns-in-Put
returns-in-Put g c = λ rs h.
    let e = c.put.ensures in
    rw (c.in-Put.is, c.err.ensures.value, sym c.deref.ensures.value, sym c.deref-in-Put.ensures.value)
    (put_tried {s = g.S.Store} {l = g.L.Width} c.args.maker.now c.put.new.self _ _ _ rs g.met.L.Width.four_or_eight c.requires e.puts e.fails e.follows h)

pub returns-in-Remove : goal.returns-in-Remove
returns-in-Remove g c = λ rs h.
    let e = c.remove.ensures in
    rw (c.in-Remove.is, c.err-in-Remove.ensures.value, sym c.deref-in-Remove.ensures.value)
    (removal_tried {s = g.S.Store} {l = g.L.Width} c.args.maker.now c.remove.new.self _ _ rs e.removes e.fails e.follows h)
