use Rattle.cdb_form.proofs.Words.{List, WordPair, arith, drop, empty_slot, is_used, prefix_len, prefix_len-drop_no, slots_in, sym, ◌∙◌, ◌≡◌}
use Rattle.cdb_form.proofs.Slots.Filling.{first_behind_slots, first_before_slots}
use Rattle.cdb_form.proofs.table.first_empty.Goals as goal

pub returns-then-behind-runs-clause-first : goal.returns-then-behind-runs-clause-first
returns-then-behind-runs-clause-first g c =
    first_behind_slots (slots_in g.L.Width.WORD c.args.bytes.now) c.args.home c.next_empty-behind.result c.requires.home c.next_empty-behind.ensures.first (omega arith)

pub returns-else-behind-runs-clause-first : goal.returns-else-behind-runs-clause-first
returns-else-behind-runs-clause-first g c =
    first_before_slots (slots_in g.L.Width.WORD c.args.bytes.now) c.args.home c.next_empty-behind.result c.next_empty.result c.min.result c.requires.home c.next_empty-behind.ensures.first (omega arith) c.next_empty.ensures.first c.min.ensures

pub returns-then-not-is_used-clause-first : goal.returns-then-not-is_used-clause-first
returns-then-not-is_used-clause-first g c =
    let slots : List WordPair = slots_in g.L.Width.WORD c.args.bytes.now in
    let none : prefix_len is_used (drop c.args.home slots) ≡ 0 = prefix_len-drop_no is_used slots c.args.home empty_slot c.requires.home (sym c.is_used.ensures ∙ c.if-not-is_used.true) in
    first_behind_slots slots c.args.home c.args.home c.requires.home (omega (arith, none)) c.requires.home
