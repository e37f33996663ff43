use Rattle.cdb_read.proofs.Words.{ap, arith, common_steps, eq-eqb, ne_eqb, not_from_false, not_from_true, pointer_pair, refl, run_of, slot_pair, slots_at, take, ◌+◌, ◌-◌, ◌∙◌, ◌≡◌}
use Rattle.cdb_read.proofs.Bytes.PieceReads.{reads_more}
use Rattle.cdb_read.proofs.Walked.WalkedLengths.{reads_nothing}
use Rattle.cdb_read.proofs.FilledTables.RunEnds.{run_of-none, run_of-used, run_of-unused}
use Rattle.cdb_read.proofs.Checks.SlotChecks.{slot_read, slots_more, slots_all}
use Rattle.cdb_read.proofs.checking.slot_runs.last_run.Goals as goal

pub loop-run-init : goal.loop-run-init
loop-run-init g c = record {
  shows = c.requires.shows;
  reads = reads_nothing {s = g.S.Store} _ _ refl;
  run = λ b is. (let all = ap run_of (slots_all g.L.Width.WORD b (pointer_pair c.args.table) (c.args.table.slots - 0) (omega arith)) in omega arith);
}

pub returns-then-slot-eq0-clause-run : goal.returns-then-slot-eq0-clause-run
returns-then-slot-eq0-clause-run g c = λ b is.
    let w = g.L.Width.WORD in
    let p = pointer_pair c.args.table in
    let s = slot_pair c.in_ok-slot.slot in
    let i = c.args.table.slots - 1 - c.loop-run.run in
    let next : c.args.table.slots - c.loop-run.run ≡ i + 1 = omega (arith, c.loop-run-test.true) in
    let here = slot_read w b p i s (omega (arith, c.loop-run-test.true)) (c.in_ok-slot.ensures.read b is) in
    let none : run_of (take (c.args.table.slots - c.loop-run.run) (slots_at w b p)) ≡ 0 =
    ap (λ n. run_of (take n (slots_at w b p))) next ∙ ap run_of (slots_more w b p i s (omega (arith, c.loop-run-test.true)) here)
    ∙ run_of-unused (take i (slots_at w b p)) s (not_from_true _ (eq-eqb c.in_ok-slot.slot.place 0 c.if-slot-eq0.true)) in
    let all = c.loop-run.invariant.run b (c.cover_back.ensures.reads.images b (c.slot_at.ensures.reads.images b is)) in
    omega arith

pub loop-run-preserved : goal.loop-run-preserved
loop-run-preserved g c =
    let w = g.L.Width.WORD in
    let p = pointer_pair c.args.table in
    let s = slot_pair c.in_ok-slot.slot in
    let i = c.args.table.slots - 1 - c.loop-run.run in
    let next : c.args.table.slots - c.loop-run.run ≡ i + 1 = omega (arith, c.loop-run-test.true) in
    record {
      shows = c.slot_at.ensures.shows;
      reads = reads_more (reads_more c.loop-run.invariant.reads c.cover_back.ensures.reads) c.slot_at.ensures.reads;
      run = λ b is.
          let here = slot_read w b p i s (omega (arith, c.loop-run-test.true)) (c.in_ok-slot.ensures.read b is) in
          let more : run_of (take (c.args.table.slots - c.loop-run.run) (slots_at w b p)) ≡ run_of (take i (slots_at w b p)) + 1 =
          ap (λ n. run_of (take n (slots_at w b p))) next ∙ ap run_of (slots_more w b p i s (omega (arith, c.loop-run-test.true)) here)
          ∙ run_of-used (take i (slots_at w b p)) s (not_from_false _ (ne_eqb c.in_ok-slot.slot.place 0 c.if-slot-eq0.false)) in
          let less : run_of (take (c.args.table.slots - (c.loop-run.run + 1)) (slots_at w b p)) ≡ run_of (take i (slots_at w b p)) =
          (let down : c.args.table.slots - (c.loop-run.run + 1) ≡ i = omega arith in ap (λ n. run_of (take n (slots_at w b p))) down) in
          let all = c.loop-run.invariant.run b (c.cover_back.ensures.reads.images b (c.slot_at.ensures.reads.images b is)) in
          omega arith;
    }

pub returns-clause-run : goal.returns-clause-run
returns-clause-run g c = λ b is.
    let w = g.L.Width.WORD in
    let p = pointer_pair c.args.table in
    let all = c.loop-run.invariant.run b is in
    let none : run_of (take (c.args.table.slots - c.loop-run.run) (slots_at w b p)) ≡ 0 =
    (let down : c.args.table.slots - c.loop-run.run ≡ 0 = omega (arith, c.loop-run-test.false) in ap (λ n. run_of (take n (slots_at w b p))) down ∙ run_of-none) in
    omega (arith, c.loop-run-test.false, c.loop-run.auto.run-end)

pub returns-then-slot-eq0-clause-reads : goal.returns-then-slot-eq0-clause-reads
returns-then-slot-eq0-clause-reads g c = grind (arith, common_steps)
