use Rattle.cdb_read.proofs.Words.{false, slot_pair, sym, true, ◌∙◌}
use Rattle.cdb_read.proofs.Checks.Entered.{told_by_mark, marks_told}
use Rattle.cdb_read.proofs.checking.slots.check_slot.Goals as goal

pub returns-then-is_marked-clause-fails : goal.returns-then-is_marked-clause-fails
returns-then-is_marked-clause-fails c = λ entries slots m.
    let e = c.args.entries.now in
    let found = c.in-Some.ensures.finds m.rising in
    told_by_mark e entries slots c.args.n c.args.i c.in-Some.k (slot_pair c.args.slot) c.args.is_reached true m found.within found.place found.hash
    (sym c.is_marked.ensures ∙ c.if-is_marked.true) (sym c.table_number.ensures.number ∙ c.if-table_number-n.false) c.if-not-is_reached.false

pub returns-clause-clear : goal.returns-clause-clear
returns-clause-clear c =
    let e = c.args.entries.now in
    record {
      none = λ entries slots m.
          let found = c.in-Some.ensures.finds m.rising in
          told_by_mark e entries slots c.args.n c.args.i c.in-Some.k (slot_pair c.args.slot) c.args.is_reached false m found.within found.place found.hash
          (sym c.is_marked.ensures ∙ c.if-is_marked.false) (sym c.table_number.ensures.number ∙ c.if-table_number-n.false) c.if-not-is_reached.false;
      marks = λ entries slots m.
          let found = c.in-Some.ensures.finds m.rising in
          marks_told e c.mark.new.self entries slots c.in-Some.k (slot_pair c.args.slot) m found.within found.place c.mark.ensures.places c.mark.ensures.hashes c.mark.ensures.marks;
    }
