use Rattle.cdb_form.proofs.Words.{List, WordPair, arith, empty_slot, get_or, is_used, slots_in, sym, true, ◌∙◌, ◌≡◌}
use Rattle.std.proofs.lemmas.List.Sums.{prefix_len-drop_no, prefix_len-drop_all}
use Rattle.cdb_form.proofs.Slots.RunLemmas.{run_some}
use Rattle.cdb_form.proofs.table.run_at.Goals.{else-at-runs-via-then-at-runs+else-is_used, else-at-runs-via-else-at-runs}
use Rattle.cdb_form.proofs.table.run_at.Goals as goal

pub returns-then-is_used-clause-run : goal.returns-then-is_used-clause-run
returns-then-is_used-clause-run g c =
    let slots : List WordPair = slots_in g.L.Width.WORD c.args.bytes.now in
    let used : is_used (get_or slots c.args.at empty_slot) ≡ true = sym c.is_used.ensures ∙ c.if-is_used.true in
    run_some slots c.args.at _ _ c.max.ensures used (c.requires.runs c.args.at used)

pub returns-else-at-runs-clause-none : goal.returns-else-at-runs-clause-none
returns-else-at-runs-clause-none g c =
    let slots : List WordPair = slots_in g.L.Width.WORD c.args.bytes.now in
    λ _. elim c.else-at-runs.branch [
      | else-at-runs-via-then-at-runs+else-is_used w ↦ prefix_len-drop_no is_used slots c.args.at empty_slot (omega (arith, w.if-at-runs.true, c.requires.long)) (sym w.is_used.ensures ∙ w.if-is_used.false)
      | else-at-runs-via-else-at-runs w ↦ prefix_len-drop_all is_used slots c.args.at (omega (arith, w.if-at-runs.false, c.requires.long))
    ]
