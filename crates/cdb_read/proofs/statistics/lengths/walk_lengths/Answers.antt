use Rattle.cdb_read.proofs.Words.{LengthsFail, ap, arith, behind, common_steps, err_from_is_err_and, refl, rules, subst, sym, ◌∙◌, ◌≤◌}
use Rattle.cdb_read.proofs.Bytes.PieceReads.{reads_more}
use Rattle.cdb_read.proofs.Walked.WalkedLengths.{reads_nothing, few_more, some_word, walked_none, walked_more, walked_all, walking_fails}
use Rattle.cdb_read.proofs.statistics.lengths.walk_lengths.Goals as goal

pub loop-pair-init : goal.loop-pair-init
loop-pair-init g c =
    let e = c.walk-records.ensures in
    let no_keys = c.new-keys.ensures.count in
    let no_values = c.new-values.ensures.count in
    record {
      same = refl;
      reads = reads_nothing {s = g.S.Store} _ _ (ap (λ r. r.store) e.reader);
      head = ap (λ r. r.head) e.reader;
      few_keys = omega (arith, no_keys);
      few_values = omega (arith, no_values);
      walked = rw e.reader (λ b is. walked_none g.L.Width.WORD b _ _ _ (e.walks b is) c.new-keys.ensures.spreads c.new-values.ensures.spreads);
    }

pub loop-pair-preserved : goal.loop-pair-preserved
loop-pair-preserved g c =
    let some = some_word g.L.Width.WORD g.met.L.Width.four_or_eight in
    let one = rw c.in-Some.is at c.in_ok-pair.ensures.gives in
    record {
      same = c.next.ensures.same_reader ∙ c.loop-pair.invariant.same;
      reads = reads_more c.loop-pair.invariant.reads c.next.ensures.reads;
      head = c.next.ensures.head ∙ c.loop-pair.invariant.head;
      few_keys = few_more g.L.Width.WORD _ _ _ _ c.in-Some.pair some one.lies one.next c.loop-pair.invariant.few_keys c.count.ensures.count;
      few_values = few_more g.L.Width.WORD _ _ _ _ c.in-Some.pair some one.lies one.next c.loop-pair.invariant.few_values c.count-in-Some.ensures.count;
      walked = λ b is.
          walked_more g.L.Width.WORD _ b _ _ _ _ _ _ c.in-Some.pair (c.loop-pair.invariant.walked b (c.next.ensures.reads.images b is)) (one.first b is) one.lies
          (subst (λ n. behind c.in-Some.pair ≤ n) (sym (g.met.S.Store.image_size c.next.new.self.reader.now.store b is)) one.inside)
          c.count.ensures.spreads c.count-in-Some.ensures.spreads;
    }

pub returns-clause-lengths : goal.returns-clause-lengths
returns-clause-lengths g c = λ b is.
    let none = rw c.in_default.is at c.in_ok-pair.ensures.gives in
    let here : g.S.Store.image c.next.new.self.reader.now.store b = search rules in
    walked_all g.L.Width.WORD b _ _ (c.loop-pair.invariant.walked b (c.next.ensures.reads.images b here)) (none.none b here)

pub returns-in_err-pair-clause-fails : goal.returns-in_err-pair-clause-fails
returns-in_err-pair-clause-fails g c =
    let p = err_from_is_err_and c.from_residual.result c.from_residual.ensures.1 in
    let inv = c.loop-pair.invariant in
    let fails : LengthsFail g.L.Width.WORD g.S.Store c.args.reader.now.store c.next.new.self.reader.now.store c.in_err-pair.field-0.0 =
    walking_fails {s = g.S.Store} {l = g.L.Width} g.L.Width.WORD c.args.reader.now.store c.loop-pair.records c.next.new.self _ _ c.in_err-pair.field-0.0 inv.reads c.next.ensures.reads inv.walked c.in_err-pair.ensures.fails in
    rw (p.1, p.2) (search rules)

pub returns-clause-reads : goal.returns-clause-reads
returns-clause-reads g c = grind (arith, common_steps)
