use Rattle.cdb_read.proofs.Checks.FilledChecks.{filled_is_clear}
use Rattle.cdb_read.proofs.Words.{Bool, ReadTells, SlotHas, TableHas, ap, arith, common_steps, err_from_is_err_and, is_reached, nat_le, pointer_pair, rules, run_of, slot_pair, slots_at, subst, sym, take, ◌++◌, ◌+◌, ◌∙◌, ◌≡◌}
use Rattle.std.proofs.lemmas.List.{append-nil, append_assoc}
use Rattle.cdb_read.proofs.Bytes.PieceReads.{reads_more}
use Rattle.cdb_read.proofs.FilledTables.RunEnds.{reached_by_run}
use Rattle.cdb_read.proofs.Checks.SlotChecks.{IsClearTo, slot_read, slots_more, clear_to_none, clear_to_used, clear_to_empty, clear_to_all, fault_at}
use Rattle.cdb_read.proofs.Checks.Tells.{fault_tells}
use Rattle.cdb_read.proofs.Probing.Probes.{length-slots_at}
use Rattle.cdb_read.proofs.checking.slots.check_table.Goals.{then-slot-ne0+in_ok-check_slot, else-slot-ne0}
use Rattle.cdb_read.proofs.checking.slots.check_table.Goals as goal

pub loop-i-init : goal.loop-i-init
loop-i-init g c =
    let w = g.L.Width.WORD in
    let p = pointer_pair c.args.table in
    record {
      shows = c.last_run.ensures.shows;
      reads = reads_more c.is_filled.ensures.reads c.last_run.ensures.reads;
      small = omega (arith, c.in_ok-run.ensures.small);
      run = λ b is. c.in_ok-run.ensures.run b is ∙ ap run_of (sym (append-nil (slots_at w b p)));
      clear = λ b is. clear_to_none w c.args.n p b c.args.entries.now;
    }

pub returns-in_err-check_slot-clause-fails : goal.returns-in_err-check_slot-clause-fails
returns-in_err-check_slot-clause-fails g c =
    let q = err_from_is_err_and c.from_residual-in_err-check_slot.result c.from_residual-in_err-check_slot.ensures.1 in
    let w = g.L.Width.WORD in
    let p = pointer_pair c.args.table in
    let i = c.loop-i.i in
    let s = slot_pair c.in_ok-slot.slot in
    let met : Bool = nat_le c.distance_of.result c.loop-i.run in
    let fails : ReadTells g.S.Store (TableHas w c.args.n p c.args.entries.now) c.args.store.now c.slot_at.new.store c.in_err-check_slot.field-0.0 =
    fault_tells g.S.Store (SlotHas c.args.n i s met c.loop-i.entries) (TableHas w c.args.n p c.args.entries.now) c.args.store.now c.slot_at.new.store c.in_err-check_slot.field-0.0
    (λ d has b is.
    let was = c.slot_at.ensures.reads.images b is in
    let here = slot_read w b p i s c.loop-i-test.true (c.in_ok-slot.ensures.read b is) in
    let way : met ≡ is_reached (slots_at w b p) i = ap (λ k. nat_le k c.loop-i.run) c.distance_of.ensures.distance
    ∙ reached_by_run (slots_at w b p) i c.args.table.slots c.loop-i.run s (length-slots_at w b p) c.loop-i-test.true here (c.loop-i.invariant.run b was) in
    fault_at w c.args.n p b c.args.entries.now c.loop-i.entries i s met d c.loop-i-test.true here c.if-slot-ne0.true way (c.loop-i.invariant.clear b was) has)
    c.in_err-check_slot.ensures.fails in
    rw (q.1, q.2) fails

pub loop-i-preserved : goal.loop-i-preserved
loop-i-preserved g c =
    let w = g.L.Width.WORD in
    let p = pointer_pair c.args.table in
    let i = c.loop-i.i in
    let s = slot_pair c.in_ok-slot.slot in
    let inv = c.loop-i.invariant in
    record {
      shows = c.slot_at.ensures.shows;
      reads = reads_more inv.reads c.slot_at.ensures.reads;
      small = omega (arith, c.run_with-run.ensures.small, inv.small);
      run = λ b is.
          let slots = slots_at w b p in
          let here = slot_read w b p i s c.loop-i-test.true (c.in_ok-slot.ensures.read b is) in
          c.run_with-run.ensures.run (slots_at w b p ++ take i (slots_at w b p)) (inv.run b (c.slot_at.ensures.reads.images b is))
          ∙ ap run_of (append_assoc (slots_at w b p) (take i (slots_at w b p)) _ ∙ ap (λ t. slots_at w b p ++ t) (sym (slots_more w b p i s c.loop-i-test.true here)));
      clear = λ b is.
          let was = c.slot_at.ensures.reads.images b is in
          let here = slot_read w b p i s c.loop-i-test.true (c.in_ok-slot.ensures.read b is) in
          elim c.if-slot-ne0.branch [
            | then-slot-ne0+in_ok-check_slot v ↦
                (let way : nat_le v.distance_of.result c.loop-i.run ≡ is_reached (slots_at w b p) i = ap (λ k. nat_le k c.loop-i.run) v.distance_of.ensures.distance
                ∙ reached_by_run (slots_at w b p) i c.args.table.slots c.loop-i.run s (length-slots_at w b p) c.loop-i-test.true here (inv.run b was) in
                subst (λ e. IsClearTo w c.args.n p b c.args.entries.now e (i + 1)) (sym v.entries-is)
                (clear_to_used w c.args.n p b c.args.entries.now c.loop-i.entries v.check_slot.new.entries i s _ c.loop-i-test.true here v.if-slot-ne0.true way (inv.clear b was) v.in_ok-check_slot.ensures.clear))
            | else-slot-ne0 v ↦
                subst (λ e. IsClearTo w c.args.n p b c.args.entries.now e (i + 1)) (sym v.entries-is)
                (clear_to_empty w c.args.n p b c.args.entries.now c.loop-i.entries i s c.loop-i-test.true here v.if-slot-ne0.false (inv.clear b was))
          ];
    }

pub returns-clause-clear : goal.returns-clause-clear
returns-clause-clear g c = λ b is.
    clear_to_all g.L.Width.WORD c.args.n (pointer_pair c.args.table) b c.args.entries.now c.loop-i.entries c.loop-i.i (omega (arith, c.loop-i-test.false)) (c.loop-i.invariant.clear b is)

pub slot_at-requires-clause-inside : goal.slot_at-requires-clause-inside
slot_at-requires-clause-inside g c = grind (arith, common_steps)

pub returns-then-branch-clause-clear : goal.returns-then-branch-clause-clear
returns-then-branch-clause-clear g c = λ b is.
    let marked = c.mark_all.ensures in
    filled_is_clear g.L.Width.WORD c.args.n g.L.Width.TOP (pointer_pair c.args.table) b c.args.entries.now c.mark_all.new.self (c.in_ok-is_filled.ensures.filled b is (search rules)) marked.places marked.hashes marked.marks

pub returns-in_err-check_slot-clause-reads : goal.returns-in_err-check_slot-clause-reads
returns-in_err-check_slot-clause-reads g c = grind (arith, common_steps)

pub returns-in_err-slot-clause-reads : goal.returns-in_err-slot-clause-reads
returns-in_err-slot-clause-reads g c = grind (arith, common_steps)

pub run_with-run-requires : goal.run_with-run-requires
run_with-run-requires g c = grind (arith, common_steps)

pub returns-in_err-slot-clause-fails : goal.returns-in_err-slot-clause-fails
returns-in_err-slot-clause-fails g c = grind (arith, common_steps)
