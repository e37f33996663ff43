use Rattle.cdb_read.proofs.Words.{Some, ap, arith, false, first_of, get_or_default, lost_fault, sym, ◌∙◌}
use Rattle.cdb_form.specs.declared.damage.Damage.TheVariants.{Unindexed}
use Rattle.cdb_read.proofs.Checks.Entered.{lost_more, lost_here, lost_none}
use Rattle.cdb_read.proofs.checking.table_records.TableRecords.first_unmarked.Goals as goal

pub returns-then-not-index : goal.returns-then-not-index
returns-then-not-index c = λ entries slots m.
    ap (λ place. Some (Unindexed place)) (c.index-then-not-index.ensures ∙ get_or_default c.args.self.now.places.items c.loop-k.k _ 0 (omega arith))
    ∙ sym (ap (first_of (lost_fault slots)) (sym m.are)
    ∙ c.loop-k.invariant.told entries slots m
    ∙ lost_here c.args.self.now entries slots c.loop-k.k m (omega arith) (get_or_default c.args.self.now.marks.items c.loop-k.k false c.index.result.now (omega (arith, c.args.self.now.marked)) ∙ sym c.index.ensures ∙ c.if-not-index.true))

pub loop-k-preserved : goal.loop-k-preserved
loop-k-preserved c = record {
  told = λ entries slots m. c.loop-k.invariant.told entries slots m
      ∙ lost_more c.args.self.now entries slots c.loop-k.k m (omega arith) (get_or_default c.args.self.now.marks.items c.loop-k.k false c.index.result.now (omega (arith, c.args.self.now.marked)) ∙ sym c.index.ensures ∙ c.if-not-index.false);
}

pub returns : goal.returns
returns c = λ entries slots m.
    sym (ap (first_of (lost_fault slots)) (sym m.are)
    ∙ c.loop-k.invariant.told entries slots m
    ∙ lost_none c.args.self.now slots c.loop-k.k (omega arith))
