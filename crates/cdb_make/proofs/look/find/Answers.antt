use Rattle.cdb_make.proofs.Words.{marks_in, Bool, List, ap, arith, cases_eq, cases_lt, ext_get_or, false, found_of, fresh, get_or, get_or-set_other, get_or-set_same, gone_of, inl, inr, is_found, is_gone, length, length-map, reads_more, reads_nothing, refl, searched, set, sym, true, ℕ, ◌<◌, ◌∙◌, ◌≡◌}
use Rattle.cdb_make.proofs.Looking.{sees_long, sees_same, same_back, same_then, length-fresh}
use Rattle.cdb_make.proofs.Picking.{found_hash, not_fresh}
use Rattle.cdb_make.proofs.Marking.{marks_long}
use Rattle.cdb_make.proofs.look.find.Goals as goal

pub loop-n-init : goal.loop-n-init
loop-n-init g c =
    let put = c.put_back.ensures in
    let marks = marks_in c.put_back.new.self in
    record {
      within = omega (arith, c.len-end.ensures);
      each = λ b is all sees k low high. absurd {A = get_or (found_of marks) k false ≡ get_or (fresh c.args.key.now (gone_of marks) all) k false} (omega (arith, c.len-end.ensures));
      below = λ k lt. put.found k;
      hash = record { each = λ k is. absurd (let t : false ≡ true = sym (put.found k) ∙ is in cc) };
      same = put.same;
      tagged = put.tagged;
      room = put.has;
      gone = put.gone;
      kept = put.picked;
      failures = refl;
      reads = reads_nothing _ _ refl;
    }

pub find-requires-clause-before : goal.find-requires-clause-before
find-requires-clause-before g c =
    let m = c.loop-n.roll in
    let inv = c.loop-n.invariant in
    let first : ℕ = m.found.first in
    let within : c.in-Some.n < c.loop-n.end = rw c.in-Some.is at c.in_ok-n.ensures.within in
    elim (cases_lt c.in-Some.n first) [
      | inl lt ↦ lt
      | inr le ↦ absurd (let t : false ≡ true = sym (inv.below first (omega (arith, le, within))) ∙ m.sought.first.here (omega (arith, le, within, inv.within)) in cc)
    ]

pub loop-n-preserved : goal.loop-n-preserved
loop-n-preserved g c =
    let old = c.loop-n.roll in
    let m = c.find.new.self in
    let inv = c.loop-n.invariant in
    let f = c.find.ensures in
    let n : ℕ = c.in-Some.n in
    let end : ℕ = c.loop-n.end in
    let within : n < end = rw c.in-Some.is at c.in_ok-n.ensures.within in
    let here = rw c.in-Some.is at c.in_ok-n.ensures.here in
    let looks = rw c.in-Some.is at c.in_ok-n.ensures.last in
    let ms : List Bool = found_of (marks_in old) in
    let in_ms : n < length ms = omega (arith, within, inv.within, length-map (marks_in old) is_found, (marks_long old)) in
    let long : length m.hashes.items ≡ length old.hashes.items = ap length f.same.hashes in
    record {
      within = omega (arith, within, inv.within, long);
      each = λ b is all sees k low high.
          let sees₁ = sees_same m old all b (same_back old m f.same) sees in
          let last = looks.each b is all sees₁ in
          let gone : List Bool = fresh c.args.key.now (gone_of (marks_in old)) all in
          let same : get_or (fresh c.args.key.now (gone_of (marks_in m)) all) k false ≡ get_or gone k false = ap (λ (v : List Bool). get_or (fresh c.args.key.now v all) k false) f.gone in
          ap (λ (v : List Bool). get_or v k false) f.found ∙ elim (cases_eq k n) [
            | inl e ↦ ap (λ (v : ℕ). get_or (set ms n true) v false) e ∙ get_or-set_same ms n true false in_ms ∙ sym last.here ∙ ap (λ (v : ℕ). get_or gone v false) (sym e)
            | inr apart ↦ get_or-set_other ms n k true false apart ∙ elim (cases_lt k end) [
              | inl lt ↦ inv.below k lt ∙ sym (not_fresh gone k (last.none k (omega (arith, low, apart)) lt))
              | inr over ↦ inv.each b (c.last_with_key.ensures.reads.images b is) all sees₁ k over (omega (arith, high, long))
            ]
          ] ∙ sym same;
      below = λ k lt. ap (λ (v : List Bool). get_or v k false) f.found ∙ get_or-set_other ms n k true false (λ e. omega (arith, lt, e)) ∙ inv.below k (omega (arith, lt, within));
      hash = found_hash c.args.sought (searched old) (searched m) (marks_in old) (marks_in m) n f.same.searched f.found here.same inv.hash;
      same = same_then c.args.roll.now old m inv.same f.same;
      tagged = f.tagged ∙ inv.tagged;
      room = λ has. f.room (inv.room has);
      gone = f.gone ∙ inv.gone;
      kept = f.kept ∙ inv.kept;
      failures = c.in_ok-n.ensures.ok_failures ∙ inv.failures;
      reads = reads_more inv.reads c.last_with_key.ensures.reads;
    }

pub returns-clause-all : goal.returns-clause-all
returns-clause-all g c =
    let m = c.loop-n.roll in
    let inv = c.loop-n.invariant in
    let looks = rw c.in_default.is at c.in_ok-n.ensures.last in
    record {
      each = λ b is all sees.
          let wanted : List Bool = fresh c.args.key.now (gone_of (marks_in m)) all in
          let many : length (gone_of (marks_in m)) ≡ length all = omega (arith, length-map (marks_in m) is_gone, (marks_long m), sees_long m all b sees) in
          let long : length (found_of (marks_in m)) ≡ length m.hashes.items = length-map (marks_in m) is_found ∙ (marks_long m) in
          ext_get_or false (found_of (marks_in m)) wanted (long ∙ sees_long m all b sees ∙ sym (length-fresh c.args.key.now (gone_of (marks_in m)) all many))
          (λ k high. elim (cases_lt k c.loop-n.end) [
            | inl lt ↦ inv.below k lt ∙ sym (not_fresh wanted k (looks.each b is all sees k lt))
            | inr over ↦ inv.each b (c.last_with_key.ensures.reads.images b is) all sees k over (omega (arith, high, long))
          ]);
    }

pub returns-in_err-n-clause-reads : goal.returns-in_err-n-clause-reads
returns-in_err-n-clause-reads g c = reads_more c.loop-n.invariant.reads c.last_with_key.ensures.reads

pub returns-clause-reads : goal.returns-clause-reads
returns-clause-reads g c = reads_more c.loop-n.invariant.reads c.last_with_key.ensures.reads
