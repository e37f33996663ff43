use Rattle.cdb_show.proofs.Words.{feed_of, nothing_taken, shared_feed, subst, sym, ◌∙◌}
use Rattle.cdb_form.specs.Views.Feed.{Keeps}
use Rattle.cdb_show.specs.declared.inputs.SharedWindow.TheVariants.{InHand, Unread}
use Rattle.cdb_show.proofs.InputTurns.{one_window, own_takes, shared_takes, turn_done, turn_stopped, turn_unbegun}
use Rattle.cdb_show.proofs.runs.input_turns.do_turn.Goals as goal

pub returns-in-Err-clause-fails : goal.returns-in-Err-clause-fails
returns-in-Err-clause-fails g c =
    let own = g.J.Feeds.feed in
    let back = subst (λ r. Keeps (own c.in-Own.own) (own r)) (sym c.in-Err.ensures.back) (nothing_taken (own c.in-Own.own)) in
    turn_unbegun (g.P.InputTask.work c.args.task.now) c.args.number (own c.in-Own.own) (own c.in-Err.refused.reader) _
    (own_takes own g.I.Feeds.feed c.args.input.now c.in-Own.own c.in-Err.refused.reader (own c.in-Own.own) (own c.in-Err.refused.reader) _ c.args.shared (sym c.replace.ensures.value ∙ c.in-Own.is) (nothing_taken (own c.in-Own.own)) (nothing_taken (own c.in-Err.refused.reader)))
    _ _ back

pub returns-in-Ok-clause-ok : goal.returns-in-Ok-clause-ok
returns-in-Ok-clause-ok g c =
    let own = g.J.Feeds.feed in
    turn_done (g.P.InputTask.work c.args.task.now) c.args.number (feed_of own c.in-Ok.window) (feed_of own c.do_text-window.result.0) _
    (own_takes own g.I.Feeds.feed c.args.input.now c.in-Own.own c.into_reader.result (feed_of own c.in-Ok.window) (feed_of own c.do_text-window.result.0) _ c.args.shared (sym c.replace.ensures.value ∙ c.in-Own.is) c.in-Ok.ensures.kept c.into_reader.ensures.lost)
    _ _ c.do_text-window.result.1 c.do_text-window.ensures.ok

pub returns-in-Ok-clause-fails : goal.returns-in-Ok-clause-fails
returns-in-Ok-clause-fails g c =
    let own = g.J.Feeds.feed in
    turn_stopped (g.P.InputTask.work c.args.task.now) c.args.number (feed_of own c.in-Ok.window) (feed_of own c.do_text-window.result.0) _
    (own_takes own g.I.Feeds.feed c.args.input.now c.in-Own.own c.into_reader.result (feed_of own c.in-Ok.window) (feed_of own c.do_text-window.result.0) _ c.args.shared (sym c.replace.ensures.value ∙ c.in-Own.is) c.in-Ok.ensures.kept c.into_reader.ensures.lost)
    _ _ _ c.do_text-window.result.1 (one_window own c.in-Ok.window (λ it. g.met.J.Feeds.one_rest it)) c.into_reader.ensures.lost.stays c.do_text-window.ensures.fails

pub returns-in-Err-in_hand-clause-fails : goal.returns-in-Err-in_hand-clause-fails
returns-in-Err-in_hand-clause-fails g c =
    let shared = g.I.Feeds.feed in
    turn_unbegun (g.P.InputTask.work c.args.task.now) c.args.number (shared_feed shared c.args.shared) (shared c.in-Err-in_hand.refused.reader) _
    (shared_takes g.J.Feeds.feed shared c.args.input.now c.replace.new.dest c.args.shared (Unread c.in-Err-in_hand.refused.reader) (shared_feed shared c.args.shared) (sym c.replace.ensures.value ∙ c.in-Shared.is) c.replace.ensures.after (nothing_taken (shared_feed shared c.args.shared)))
    _ _ c.in-Err-in_hand.ensures.back

pub returns-in-Ok-in_hand-clause-ok : goal.returns-in-Ok-in_hand-clause-ok
returns-in-Ok-in_hand-clause-ok g c =
    let shared = g.I.Feeds.feed in
    let window = c.do_text-window-in-Shared.result.0 in
    turn_done (g.P.InputTask.work c.args.task.now) c.args.number (feed_of shared c.in-Ok-in_hand.window) (feed_of shared window) _
    (shared_takes g.J.Feeds.feed shared c.args.input.now c.replace.new.dest c.args.shared (InHand window) (feed_of shared c.in-Ok-in_hand.window) (sym c.replace.ensures.value ∙ c.in-Shared.is) c.replace.ensures.after c.in-Ok-in_hand.ensures.kept)
    _ _ c.do_text-window-in-Shared.result.1 c.do_text-window-in-Shared.ensures.ok

pub returns-in-Ok-in_hand-clause-fails : goal.returns-in-Ok-in_hand-clause-fails
returns-in-Ok-in_hand-clause-fails g c =
    let shared = g.I.Feeds.feed in
    let window = c.do_text-window-in-Shared.result.0 in
    turn_stopped (g.P.InputTask.work c.args.task.now) c.args.number (feed_of shared c.in-Ok-in_hand.window) (feed_of shared window) _
    (shared_takes g.J.Feeds.feed shared c.args.input.now c.replace.new.dest c.args.shared (InHand window) (feed_of shared c.in-Ok-in_hand.window) (sym c.replace.ensures.value ∙ c.in-Shared.is) c.replace.ensures.after c.in-Ok-in_hand.ensures.kept)
    _ _ _ c.do_text-window-in-Shared.result.1 (one_window shared c.in-Ok-in_hand.window (λ it. g.met.I.Feeds.one_rest it)) (λ failed. rw c.replace.ensures.after failed) c.do_text-window-in-Shared.ensures.fails
