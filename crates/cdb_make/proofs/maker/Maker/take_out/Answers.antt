use Rattle.cdb_make.proofs.Words.{marks_in, Bool, List, ap, arith, behind, false, found_in, gone_in, gone_of, head_size, inl, inr, is_gone, left, length, length-map, map, on_err_weaker, or_each, record_size, refl, sum, sym, true, ℕ, ◌∙◌, ◌≡◌}
use Rattle.cdb_make.proofs.Looking.{sees_same, sees_long}
use Rattle.cdb_make.proofs.Picking.{left_all_stay, left_sum, end_sum}
use Rattle.cdb_make.proofs.Spans.{long_as}
use Rattle.cdb_make.proofs.Removing.{behind_most, tears_by}
use Rattle.cdb_make.proofs.Marking.{marks_long}
use Rattle.cdb_make.proofs.maker.Maker.take_out.Goals as goal

pub returns-clause-follows : goal.returns-clause-follows
returns-clause-follows g c = (let f = c.pass.ensures.follows in record { comes = f.comes; head = f.head; limit = f.limit; lazy = f.lazy; room = f.room; failures = f.failures; unwritten = f.unwritten })

pub returns-then-waits-clause-takes : goal.returns-then-waits-clause-takes
returns-then-waits-clause-takes g c =
    let old = c.args.self.now in
    let t = c.take.ensures in
    record {
      whole = c.requires.whole;
      goes = record {
        each = λ b is. (
          b,
          is,
          λ all sees. (
            all,
            sees_same old.roll c.take.new.self all b t.same sees,
            (ap (λ (v : List Bool). left v all) t.gone, λ eager. absurd (let e : true ≡ false = sym (c.waits.ensures.lazy c.if-waits.true) ∙ eager in cc), λ lazy. omega (arith, t.same.end), inl refl),
          ),
        );
      };
    }

pub returns-clause-takes : goal.returns-clause-takes
returns-clause-takes g c =
    let old = c.args.self.now in
    let w : ℕ = g.L.Width.WORD in
    let t = c.take-2.ensures in
    let ms : List Bool = or_each (gone_in old) (found_in old) in
    let p = c.pass.ensures in
    Rattle.cdb_make.proofs.Rolls.on_ok_both c.pass.result
    (λ compacts last. record {
      whole = compacts.whole;
      goes = record {
        each = λ b is.
            let q = compacts.goes.each b is in (
              q.0,
              q.1,
              λ all sees.
                  let ns : List ℕ = map (record_size w) all in
                  let now = sees_same old.roll c.take-2.new.self all q.0 t.same sees in
                  let mid = q.2 all now in
                  let m = c.pass.new.self.roll in
                  let many : length (gone_in c.pass.new.self) ≡ length mid.0 = omega (arith, length-map (marks_in m) is_gone, (marks_long m), sees_long m mid.0 b mid.1) in
                  let tm = c.take-2.new.self in
                  let moved : sum (behind (gone_of (marks_in tm)) ns) ≡ sum (behind ms ns) = ap (λ (v : List Bool). sum (behind v ns)) t.gone in
                  let sums = left_sum (gone_of (marks_in tm)) ns (omega (arith, length-map (marks_in tm) is_gone, (marks_long tm), tm.paired, long_as now.of)) in (
                    mid.0,
                    mid.1,
                    (
                      left_all_stay (gone_in c.pass.new.self) mid.0 many compacts.none ∙ mid.2.0 ∙ ap (λ (v : List Bool). left v all) t.gone,
                      λ eager. omega (arith, mid.2.1, moved),
                      λ lazy. omega (arith, mid.2.1, last, t.size, t.same.end, c.waits.ensures.due c.if-waits.false lazy, behind_most (gone_of (marks_in tm)) ns, sums, tm.picked.size ns now.of, now.of.ends, end_sum (head_size w) ns),
                      inr (omega (arith, mid.2.1, moved), c.waits.ensures.due c.if-waits.false),
                    ),
                  ),
            );
      };
    })
    p.compacts p.end

pub returns-clause-fails : goal.returns-clause-fails
returns-clause-fails g c =
    let p = c.pass.ensures in
    let t = c.take-2.ensures in
    tears_by c.args.self.now c.pass.new.self c.pass.result p.fails p.broken p.cause (on_err_weaker c.pass.result (λ kept. omega (arith, ap (λ q. q.count) kept, t.count, c.requires.some)) p.kept_gone)
