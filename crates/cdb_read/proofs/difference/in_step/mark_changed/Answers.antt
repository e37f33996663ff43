use Rattle.cdb_read.proofs.DifferenceWords.{Walked, ap, reads_nothing, rules, sym, walk_ahead, ◌∙◌}
use Rattle.cdb_read.proofs.Marked.{in_step_end, in_step_grown, in_step_start, still_marked}
use Rattle.cdb_read.proofs.difference.in_step.mark_changed.Goals as goal

pub loop-init : goal.loop-init
loop-init g c =
    let w = g.L.Width.WORD in
    let one = c.walk.ensures in
    let two = c.walk-2.ensures in
    record {
      reads = record { own = reads_nothing {s = g.S.Store} _ _ (search rules); other = reads_nothing {s = g.T.Store} _ _ (search rules) };
      in_step = record {
        own_damage = λ b is.
            let here : g.S.Store.image c.args.own.now.store b = search rules in
            sym (ap (λ (x : Walked). x.damage) (ap (walk_ahead w b) c.bookmark.ensures ∙ one.walks b here));
        other_damage = λ d it.
            let here : g.T.Store.image c.args.other.now.store d = search rules in
            sym (ap (λ (x : Walked). x.damage) (ap (walk_ahead w d) c.bookmark-2.ensures ∙ two.walks d here));
        in_step = λ b d is it.
            let here : g.S.Store.image c.args.own.now.store b = search rules in
            let there : g.T.Store.image c.args.other.now.store d = search rules in
            in_step_start w c.args.marks.now.words.items b d _ _ (ap (walk_ahead w b) c.bookmark.ensures ∙ one.walks b here) (ap (walk_ahead w d) c.bookmark-2.ensures ∙ two.walks d there);
      };
    }

pub returns-in-Ok-clause-agree : goal.returns-in-Ok-clause-agree
returns-in-Ok-clause-agree g c = λ b d is it.
    let w = g.L.Width.WORD in
    let first = c.mark_left.ensures in
    let second = c.mark_left-2.ensures in
    let went = c.in_ok-step.ensures.in_step in
    let words = c.mark_left-2.new.marks.words.items in
    in_step_end w words b d _ _
    (still_marked c.mark_left.new.marks.words.items words _ second.grows (c.in_ok-mark_left.ensures.sets b is)) (c.in-Ok.ensures.sets d it)
    (in_step_grown w c.mark_left.new.marks.words.items words b d _ _ second.grows
    (in_step_grown w c.step.new.marks.words.items c.mark_left.new.marks.words.items b d _ _ first.grows (went.in_step b d (first.reads.images b is) (second.reads.images d it))))
