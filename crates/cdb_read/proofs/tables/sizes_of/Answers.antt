use Rattle.cdb_read.proofs.Words.{Spreads, ap, arith, subst, sym, table_sizes, ◌+◌}
use Rattle.cdb_read.proofs.Counting.SlotCounts.{SizesBefore, sizes_some, sizes_none, all_tables}
use Rattle.cdb_read.proofs.tables.sizes_of.Goals as goal
use Rattle.cdb_read.proofs.tables.sizes_of.Goals.{then-slots-ne0, else-slots-ne0}

pub loop-n-preserved : goal.loop-n-preserved
loop-n-preserved c =
    let ps = c.args.tables.now in
    let n = c.loop-n.n in
    let inv = c.loop-n.invariant in
    let all : SizesBefore c.if-slots-ne0.sizes ps (n + 1) = elim c.if-slots-ne0.branch [
      | then-slots-ne0 v ↦
          subst (λ s. SizesBefore s ps (n + 1)) (sym v.sizes-is)
          (record {
            few = omega (arith, v.count.ensures.count, inv.few);
            spreads = subst (Spreads v.count.new.self) (sym (sizes_some ps n _ c.loop-n-test.true v.if-slots-ne0.true)) (v.count.ensures.spreads _ inv.spreads);
          })
      | else-slots-ne0 v ↦
          subst (λ s. SizesBefore s ps (n + 1)) (sym v.sizes-is)
          (record {
            few = omega (arith, inv.few);
            spreads = subst (Spreads c.loop-n.sizes) (sym (sizes_none ps n _ c.loop-n-test.true v.if-slots-ne0.false)) inv.spreads;
          })
    ] in
    record { few = all.few; spreads = all.spreads }

pub returns : goal.returns
returns c = subst (Spreads c.loop-n.sizes) (ap table_sizes (all_tables c.args.tables.now c.loop-n.n (omega (arith, c.loop-n-test.false)))) c.loop-n.invariant.spreads
