use Rattle.cdb_read.proofs.Words.{Counts, List, ap, arith, drop-drop, pair_at, pointer_pair, slot_of, slot_pair, subst, sym, ℕ, ◌*◌, ◌++◌, ◌+◌, ◌∙◌, ◌≡◌}
use Rattle.cdb_read.proofs.Bytes.PieceReads.{reads_more}
use Rattle.cdb_read.proofs.Counting.SlotCounts.{all_before, counts_used, counts_empty, some_slots, distances_before}
use Rattle.cdb_read.proofs.tables.count_table.Goals as goal
use Rattle.cdb_read.proofs.tables.count_table.Goals.{then-slot-ne0, else-slot-ne0}

pub slot_at-requires-clause-inside : goal.slot_at-requires-clause-inside
slot_at-requires-clause-inside g c =
    let in_file = (c.requires.inside (some_slots (pointer_pair c.args.table) c.loop-n.n c.loop-n-test.true)).inside in
    omega (arith, in_file, c.loop-n.invariant.reads.size)

pub loop-n-preserved : goal.loop-n-preserved
loop-n-preserved g c =
    let w = g.L.Width.WORD in
    let p = pointer_pair c.args.table in
    let n = c.loop-n.n in
    let slot = c.in_ok-slot.slot in
    let inv = c.loop-n.invariant in
    let read : (b : List ℕ) → g.S.Store.image c.slot_at.new.store b → slot_pair slot ≡ slot_of w b p n = λ b is.
    c.in_ok-slot.ensures.read b is ∙ ap (pair_at w) (sym (drop-drop (2 * w * n) c.args.table.place b)) in
    record {
      shows = c.slot_at.ensures.shows;
      reads = reads_more inv.reads c.slot_at.ensures.reads;
      counts = λ b is ds h.
          let before = inv.counts b (c.slot_at.ensures.reads.images b is) ds h in
          elim c.if-slot-ne0.branch [
            | then-slot-ne0 v ↦
                subst (λ k. Counts k (ds ++ distances_before w b p (n + 1))) (sym v.distances-is)
                (counts_used w b p n v.distance_of.result ds (slot_pair slot) _ (read b is) v.if-slot-ne0.true v.distance_of.ensures.distance (v.count.ensures (ds ++ distances_before w b p n) before))
            | else-slot-ne0 v ↦
                subst (λ k. Counts k (ds ++ distances_before w b p (n + 1))) (sym v.distances-is)
                (counts_empty w b p n ds (slot_pair slot) _ (read b is) v.if-slot-ne0.false before)
          ];
    }

pub returns-clause-counts : goal.returns-clause-counts
returns-clause-counts g c = λ b is ds h.
    let p = pointer_pair c.args.table in
    let w = g.L.Width.WORD in
    let last : c.loop-n.n ≡ c.args.table.slots = omega arith in
    subst (λ k. Counts c.loop-n.distances (ds ++ k)) (ap (distances_before w b p) last ∙ sym (all_before w b p)) (c.loop-n.invariant.counts b is ds h)
