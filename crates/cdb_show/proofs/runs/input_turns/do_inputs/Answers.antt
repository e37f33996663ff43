use Rattle.std.specs.Vec.{with_items}
use Rattle.cdb_show.proofs.Words.{Inputs, rules}
use Rattle.std.proofs.lemmas.List.{places, with_items_is}
use Rattle.std.proofs.lemmas.Result.{IfErr-weaker, on_ok_weaker}
use Rattle.cdb_show.proofs.InputTurns.{inputs_done, inputs_stopped}
use Rattle.cdb_show.proofs.runs.input_turns.do_inputs.Goals as goal

pub returns-clause-ok : goal.returns-clause-ok
returns-clause-ok g c =
    let left : Inputs _ _ = record { readers = with_items c.args.inputs.readers c.do_turns-shared.new.readers; shared = c.into_reader.result } in
    let same = with_items_is c.args.inputs.readers c.do_turns-shared.new.readers (search (rules, places)) in
    on_ok_weaker c.do_turns-shared.result.1
    (inputs_done (g.P.InputTask.work c.args.task.now) g.J.Feeds.feed g.I.Feeds.feed c.args.inputs left c.do_turns-shared.result.0 c.do_turns-shared.new.readers same c.into_reader.ensures.reader _ _)
    (rw c.deref_mut.ensures.value at c.do_turns-shared.ensures.ok)

pub returns-clause-fails : goal.returns-clause-fails
returns-clause-fails g c =
    let left : Inputs _ _ = record { readers = with_items c.args.inputs.readers c.do_turns-shared.new.readers; shared = c.into_reader.result } in
    let same = with_items_is c.args.inputs.readers c.do_turns-shared.new.readers (search (rules, places)) in
    IfErr-weaker c.do_turns-shared.result.1 _ _
    (inputs_stopped (g.P.InputTask.work c.args.task.now) g.J.Feeds.feed g.I.Feeds.feed c.args.inputs left c.do_turns-shared.result.0 c.do_turns-shared.new.readers same c.into_reader.ensures.reader _ _)
    (rw c.deref_mut.ensures.value at c.do_turns-shared.ensures.fails)
