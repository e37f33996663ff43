use Rattle.cdb_show.proofs.Words.{SaysDifference, subst, sym, ◌∙◌}
use Rattle.cdb_show.proofs.DifferenceRuns.{new_lacks, new_outside, old_lacks, old_outside, tells_stopped}
use Rattle.cdb_show.proofs.runs.difference.write_opened.Goals as goal

pub returns-then-lacks_tables-clause-tells : goal.returns-then-lacks_tables-clause-tells
returns-then-lacks_tables-clause-tells g c =
    let old = c.args.old.now in
    let new = c.args.new.now in
    let text = g.W.Sink.contents c.args.w.now in
    old_lacks g.L.Width.WORD g.S.Store g.T.Store old.store old.store new.store new.store text text (record { of_old = old.long; of_new = new.long }) (λ b is. sym (c.lacks_tables.ensures b is) ∙ c.if-lacks_tables.true)

pub returns-then-lacks_tables-2-clause-tells : goal.returns-then-lacks_tables-2-clause-tells
returns-then-lacks_tables-2-clause-tells g c =
    let old = c.args.old.now in
    let new = c.args.new.now in
    let text = g.W.Sink.contents c.args.w.now in
    new_lacks g.L.Width.WORD g.S.Store g.T.Store old.store old.store new.store new.store text text (record { of_old = old.long; of_new = new.long })
    (λ b is. sym (c.lacks_tables.ensures b is) ∙ c.if-lacks_tables.false) (λ b is. sym (c.lacks_tables-2.ensures b is) ∙ c.if-lacks_tables-2.true)

pub returns-in-Some-clause-tells : goal.returns-in-Some-clause-tells
returns-in-Some-clause-tells g c =
    let old = c.args.old.now in
    let new = c.args.new.now in
    let text = g.W.Sink.contents c.args.w.now in
    old_outside g.L.Width.WORD g.S.Store g.T.Store old.store old.store new.store new.store text text c.in-Some.n
    (record {
      heads = record { of_old = old.long; of_new = new.long };
      of_old = λ b is. sym (c.lacks_tables.ensures b is) ∙ c.if-lacks_tables.false;
      of_new = λ b is. sym (c.lacks_tables-2.ensures b is) ∙ c.if-lacks_tables-2.false;
    })
    (λ b is. sym (c.outside_table.ensures b is) ∙ c.in-Some.is)

pub returns-in-Some-outside_table-clause-tells : goal.returns-in-Some-outside_table-clause-tells
returns-in-Some-outside_table-clause-tells g c =
    let old = c.args.old.now in
    let new = c.args.new.now in
    let text = g.W.Sink.contents c.args.w.now in
    new_outside g.L.Width.WORD g.S.Store g.T.Store old.store old.store new.store new.store text text c.in-Some-outside_table.n
    (record {
      heads = record { of_old = old.long; of_new = new.long };
      of_old = λ b is. sym (c.lacks_tables.ensures b is) ∙ c.if-lacks_tables.false;
      of_new = λ b is. sym (c.lacks_tables-2.ensures b is) ∙ c.if-lacks_tables-2.false;
    })
    (λ b is. sym (c.outside_table.ensures b is) ∙ c.in_default.is) (λ b is. sym (c.outside_table-2.ensures b is) ∙ c.in-Some-outside_table.is)

pub returns-in-Err-clause-tells : goal.returns-in-Err-clause-tells
returns-in-Err-clause-tells g c =
    let old = c.args.old.now in
    let new = c.args.new.now in
    let left = c.write_difference.new in
    rw c.of_stop.ensures
    (tells_stopped g.L.Width.WORD g.S.Store g.T.Store old.store left.old.store new.store left.new.store (g.W.Sink.contents c.args.w.now) (g.W.Sink.contents left.w)
    (record {
      tables = record {
        heads = record { of_old = old.long; of_new = new.long };
        of_old = λ b is. sym (c.lacks_tables.ensures b is) ∙ c.if-lacks_tables.false;
        of_new = λ b is. sym (c.lacks_tables-2.ensures b is) ∙ c.if-lacks_tables-2.false;
      };
      of_old = λ b is. sym (c.outside_table.ensures b is) ∙ c.in_default.is;
      of_new = λ b is. sym (c.outside_table-2.ensures b is) ∙ c.in_default-outside_table.is;
    })
    c.in-Err.stop
    (subst (SaysDifference g.L.Width.WORD g.S.Store g.T.Store old.store left.old.store new.store left.new.store (g.W.Sink.contents c.args.w.now) (g.W.Sink.contents left.w) (g.W.Sink.failed left.w)) c.in-Err.is c.write_difference.ensures))
