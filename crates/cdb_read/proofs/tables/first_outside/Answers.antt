use Rattle.cdb_read.proofs.Words.{arith, both_ways, eq-eqb, length-map, not_from_true, pointer_pair}
use Rattle.cdb_read.proofs.Checks.TableChecks.{stand_more, first_outside_is, none_outside_is}
use Rattle.cdb_read.proofs.tables.first_outside.Goals as goal
use Rattle.cdb_read.proofs.tables.first_outside.Goals.{else-table-ne0-via-then-table-ne0+else-not-lies_inside, else-table-ne0-via-else-table-ne0}

pub loop-n-init : goal.loop-n-init
loop-n-init g c = record { inside = λ k d low. absurd (omega arith) }

pub loop-n-preserved : goal.loop-n-preserved
loop-n-preserved g c =
    let w = g.L.Width.WORD in
    let ps = c.args.tables.now in
    record {
      inside = stand_more w c.args.size c.loop-n.n ps _ (omega arith) c.loop-n.invariant.inside
          (elim c.else-table-ne0.branch [
            | else-table-ne0-via-then-table-ne0+else-not-lies_inside v ↦ λ _. v.lies_inside.ensures.0 v.if-not-lies_inside.false
            | else-table-ne0-via-else-table-ne0 v ↦ λ some. absurd (both_ways _ (not_from_true _ (eq-eqb _ 0 v.if-table-ne0.false)) some)
          ]);
    }

pub returns-then-not-lies_inside-clause-first : goal.returns-then-not-lies_inside-clause-first
returns-then-not-lies_inside-clause-first g c = λ b long.
    let ps = c.args.tables.now in
    first_outside_is g.L.Width.WORD c.args.size c.loop-n.n b ps _ long (omega arith) c.loop-n.invariant.inside c.if-table-ne0.true
    (λ inside. both_ways c.lies_inside.result c.if-not-lies_inside.true (c.lies_inside.ensures.1 inside))

pub returns-clause-first : goal.returns-clause-first
returns-clause-first g c = λ b long.
    let ps = c.args.tables.now in
    none_outside_is g.L.Width.WORD c.args.size c.loop-n.n b ps long (omega (arith, c.loop-n-test.false)) c.loop-n.invariant.inside

pub returns-clause-inside : goal.returns-clause-inside
returns-clause-inside g c = λ k d low.
    let ps = c.args.tables.now in
    let same = length-map ps pointer_pair in
    c.loop-n.invariant.inside k d (omega (arith, c.loop-n-test.false))
